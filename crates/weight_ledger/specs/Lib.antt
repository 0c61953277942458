pub mod Seen
pub mod Amounts
pub mod Keeping
pub mod Telling
