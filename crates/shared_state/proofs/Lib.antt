pub mod Cases
pub mod Looked
pub mod Answered
pub mod Beside
pub mod Written
pub mod Keys
pub mod Laws
