pub mod Number
pub mod Says
pub mod Turns
pub mod Sessions
pub mod Line
pub mod Answering
pub mod of_events
