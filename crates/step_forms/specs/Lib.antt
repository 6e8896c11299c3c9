pub mod Acts
pub mod Forms
pub mod Given
pub mod Selection
pub mod Steps
