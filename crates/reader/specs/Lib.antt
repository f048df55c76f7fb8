pub mod Rules
pub mod Reader
pub mod Parts
