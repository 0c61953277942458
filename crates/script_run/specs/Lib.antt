pub mod Comments
pub mod Stages
pub mod Worlds
pub mod Playing
