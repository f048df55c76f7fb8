pub mod Fired
pub mod Listed
pub mod Apart
