pub mod Faults
pub mod Locks
pub mod Parcels
pub mod Journals
pub mod Loans
pub mod Asking
pub mod Restarting
