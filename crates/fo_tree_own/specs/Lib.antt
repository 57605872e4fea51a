pub mod Step
pub mod of_crash
pub mod of_shown
