pub mod Rows
pub mod Rules
