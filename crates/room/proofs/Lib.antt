pub mod Courses
pub mod Room
