pub use Rattle.fo_cells_queue.proofs.Queue
