pub mod Accepting
pub mod Histories
pub mod Least
pub mod Sorting
pub mod Made
pub mod Ages
