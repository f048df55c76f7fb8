pub mod Members
pub mod Ends
