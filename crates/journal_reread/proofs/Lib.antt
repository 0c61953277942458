pub mod Due
pub mod Stored
