pub mod Going
pub mod Endings
pub mod Settled
pub mod Lost
pub mod Answered
pub mod Taken
