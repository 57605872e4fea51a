pub mod Kept
pub mod Meeting
pub mod Walking
