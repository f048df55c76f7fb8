pub mod Delivery
pub mod Within
