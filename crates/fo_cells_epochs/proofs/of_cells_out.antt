pub use Rattle.fo_cells_out.proofs.Dividing
pub use Rattle.fo_cells_out.proofs.Parents
pub use Rattle.fo_cells_out.proofs.Queue
pub use Rattle.fo_cells_out.proofs.Steps
pub use Rattle.fo_cells_out.proofs.Takeout
