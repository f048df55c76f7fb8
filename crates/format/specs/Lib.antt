pub mod Format
pub mod Walk
