pub mod Resolved
