pub use Rattle.fo_cells_blocks.proofs.Aside
pub use Rattle.fo_cells_blocks.proofs.Closing
pub use Rattle.fo_cells_blocks.proofs.Giving
pub use Rattle.fo_cells_blocks.proofs.Indexing
