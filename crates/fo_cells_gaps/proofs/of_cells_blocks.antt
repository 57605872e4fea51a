pub use Rattle.fo_cells_snapshot.proofs.of_cells_blocks.Aside
pub use Rattle.fo_cells_snapshot.proofs.of_cells_blocks.Closing
pub use Rattle.fo_cells_snapshot.proofs.of_cells_blocks.Giving
pub use Rattle.fo_cells_snapshot.proofs.of_cells_blocks.Indexing
