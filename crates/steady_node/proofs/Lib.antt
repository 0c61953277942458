pub mod Goings
pub mod Sames
pub mod Mends
pub mod Tries
pub mod Losses
