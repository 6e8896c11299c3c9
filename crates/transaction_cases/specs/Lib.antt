pub mod Mounted
pub mod Seats
pub mod Sessions
