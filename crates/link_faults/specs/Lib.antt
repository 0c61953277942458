pub mod Twins
pub mod Plans
pub mod Inboxes
