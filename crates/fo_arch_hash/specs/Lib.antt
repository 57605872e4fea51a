pub mod Batch
pub mod Form
