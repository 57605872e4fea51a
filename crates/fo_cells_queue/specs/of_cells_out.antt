pub use Rattle.fo_cells_epochs.specs.of_cells_out.Parents
pub use Rattle.fo_cells_epochs.specs.of_cells_out.Removals
