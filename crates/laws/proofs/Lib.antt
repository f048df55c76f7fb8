pub mod Tests
pub mod Numbers
pub mod Searches
pub mod Stores
pub mod Turning
pub mod Shifts
