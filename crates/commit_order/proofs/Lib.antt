pub mod Partitions
pub mod WriteOrderLemmas
pub mod BatchLemmas
pub mod BatchOrder
pub mod Given
pub mod MergeLemmas
