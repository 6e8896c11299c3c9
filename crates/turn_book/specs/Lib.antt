pub mod History
pub mod Passes
pub mod Views
pub mod Seats
pub mod Rule
pub mod Steps
