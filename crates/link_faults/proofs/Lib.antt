pub mod Waiting
pub mod Runs
pub mod InOrder
