pub mod Service
pub mod of_events
