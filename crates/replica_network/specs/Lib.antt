pub mod Networks
pub mod Keeping
