pub mod Division
pub mod Calls
pub mod Taking
pub mod of_cells_all
pub mod of_cells_queue
