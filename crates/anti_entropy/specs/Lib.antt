pub mod Counts
pub mod Wishes
