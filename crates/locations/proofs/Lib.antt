pub mod Texts
pub mod Tables
pub mod Clashes
pub mod Laws
