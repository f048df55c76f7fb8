pub mod Decimal
pub mod Joined
pub mod Sheets
pub mod Typing
