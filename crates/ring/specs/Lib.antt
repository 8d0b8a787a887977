pub mod Seats
pub mod Calls
