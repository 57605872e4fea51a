pub mod Trees
pub mod TreeSteps
pub mod Made
pub mod Snapshots
pub mod Epochs
pub mod of_cells
pub mod of_cells_out
