pub use Rattle.fo_cells_snapshot.proofs.Abandon
pub use Rattle.fo_cells_snapshot.proofs.Snapshot
