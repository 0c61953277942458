pub mod Ticks
pub mod Seats
pub mod Rule
pub mod Steps
pub mod Closing
pub mod Standing
