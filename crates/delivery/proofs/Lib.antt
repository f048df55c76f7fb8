pub mod Counted
pub mod Ways
pub mod Written
