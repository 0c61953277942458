pub mod Exits
pub mod Names
pub mod Lines
