pub use Rattle.fo_cells_queue.specs.of_cells_epochs.Epochs
