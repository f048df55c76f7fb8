pub mod Contents
pub mod Runs
pub mod Answered
pub mod Tokens
pub mod Law
