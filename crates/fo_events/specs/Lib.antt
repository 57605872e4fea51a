pub mod Row
pub mod of_turning
