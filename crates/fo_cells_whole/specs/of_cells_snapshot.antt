pub use Rattle.fo_cells_gaps.specs.of_cells_snapshot.Abandon
pub use Rattle.fo_cells_gaps.specs.of_cells_snapshot.Snapshot
