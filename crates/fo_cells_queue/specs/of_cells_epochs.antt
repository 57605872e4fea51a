pub use Rattle.fo_cells_epochs.specs.Epochs
