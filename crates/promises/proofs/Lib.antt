pub mod NoOther
pub mod Worked
pub mod Desks
