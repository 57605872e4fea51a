pub mod Epochs
pub mod Laws
pub mod of_cells
pub mod of_cells_out
