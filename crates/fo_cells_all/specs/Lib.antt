pub mod All
pub mod of_cells_epochs
pub mod of_cells_held
pub mod of_cells_queue
