pub mod Fresh
pub mod Parts
