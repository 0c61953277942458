pub mod Faults
pub mod MessageBytes
