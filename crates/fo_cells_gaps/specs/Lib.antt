pub mod Gaps
pub mod Snapshot
pub mod Covered
pub mod of_cells_blocks
pub mod of_cells_snapshot
