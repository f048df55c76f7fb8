pub mod Below
pub mod Each
pub mod Last
pub mod Turns
