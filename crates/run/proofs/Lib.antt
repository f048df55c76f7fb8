pub mod Steps
pub mod Within
pub mod Turns
pub mod Same
