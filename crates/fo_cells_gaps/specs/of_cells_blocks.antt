pub use Rattle.fo_cells_snapshot.specs.of_cells_blocks.Closing
pub use Rattle.fo_cells_snapshot.specs.of_cells_blocks.Giving
pub use Rattle.fo_cells_snapshot.specs.of_cells_blocks.Indexing
