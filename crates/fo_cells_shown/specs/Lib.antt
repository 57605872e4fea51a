pub mod Labels
pub mod Versions
pub mod Closed
pub mod Opening
pub mod Shown
pub mod Moments
pub mod of_cells_turns
