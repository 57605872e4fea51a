pub mod Weights
pub mod Lists
pub mod History
pub mod Rule
pub mod Steps
pub mod Calls
pub mod Seats
