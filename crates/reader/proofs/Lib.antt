pub mod Come
