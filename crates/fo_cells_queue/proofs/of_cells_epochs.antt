pub use Rattle.fo_cells_epochs.proofs.Epochs
pub use Rattle.fo_cells_epochs.proofs.TreeSteps
pub use Rattle.fo_cells_epochs.proofs.Trees
