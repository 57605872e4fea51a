pub mod Seen
pub mod Queue
pub mod Closing
pub mod of_cells_epochs
pub mod of_cells_out
