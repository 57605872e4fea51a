pub use Rattle.fo_cells_blocks.specs.Closing
pub use Rattle.fo_cells_blocks.specs.Giving
pub use Rattle.fo_cells_blocks.specs.Indexing
