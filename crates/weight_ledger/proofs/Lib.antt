pub mod Sums
pub mod Words
pub mod Places
pub mod Locking
pub mod Sharing
pub mod Changing
pub mod Ending
