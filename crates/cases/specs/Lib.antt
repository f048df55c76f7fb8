pub mod TableE
pub mod Paper
