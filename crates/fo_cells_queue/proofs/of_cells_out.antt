pub use Rattle.fo_cells_epochs.proofs.of_cells_out.Steps
