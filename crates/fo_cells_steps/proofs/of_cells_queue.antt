pub use Rattle.fo_cells_all.proofs.of_cells_queue.Queue
