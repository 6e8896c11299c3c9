pub mod Metadata
pub mod Want
pub mod Key
pub mod Block
pub mod Faults
pub mod Written
pub mod Described
pub mod Read
