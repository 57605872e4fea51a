pub use Rattle.fo_cells_gaps.specs.of_cells_blocks.Giving
