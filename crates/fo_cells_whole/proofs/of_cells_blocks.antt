pub use Rattle.fo_cells_gaps.proofs.of_cells_blocks.Giving
