pub mod Peers
pub mod Faults
pub mod Kept
pub mod Networks
pub mod Orders
pub mod Happenings
