pub mod Lists
pub mod Turning
pub mod Dealing
pub mod Closing
pub mod Histories
