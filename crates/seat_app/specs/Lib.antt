pub mod Seats
pub mod Sales
pub mod Careful
pub mod Selling
pub mod Booked
pub mod Bookings
