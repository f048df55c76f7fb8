pub mod Interface
pub mod Desks
