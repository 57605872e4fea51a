pub use Rattle.fo_cells_queue.proofs.of_cells_epochs.Epochs
pub use Rattle.fo_cells_queue.proofs.of_cells_epochs.TreeSteps
pub use Rattle.fo_cells_queue.proofs.of_cells_epochs.Trees
