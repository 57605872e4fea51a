pub mod Moments
pub mod Images
pub mod Quiet
pub mod Cells
pub mod Settled
