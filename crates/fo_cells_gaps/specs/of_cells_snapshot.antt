pub use Rattle.fo_cells_snapshot.specs.Abandon
pub use Rattle.fo_cells_snapshot.specs.Snapshot
