pub mod SoundState
pub mod Parts
pub mod Quiet
