pub mod Tables
pub mod Stores
pub mod Opened
pub mod Written
pub mod Told
pub mod Laws
pub mod Ordered
