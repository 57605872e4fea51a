pub mod All
pub mod SuperCalls
pub mod of_cells_epochs
pub mod of_cells_queue
