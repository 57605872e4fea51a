pub mod Snapshot
pub mod Abandon
pub mod of_cells_begin
pub mod of_cells_blocks
pub mod of_cells_turns
