pub mod Snapshot
pub mod Abandon
pub mod of_cells_blocks
