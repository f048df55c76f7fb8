pub mod Room
pub mod Worked
