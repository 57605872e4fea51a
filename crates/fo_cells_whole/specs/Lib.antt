pub mod Awaited
pub mod Whole
pub mod Tops
pub mod of_cells_blocks
pub mod of_cells_shown
pub mod of_cells_snapshot
