pub mod Legal
pub mod There
pub mod Replayed
pub mod Still
pub mod Live
pub mod Reached
pub mod Law
pub mod Instance
