pub use Rattle.fo_cells_all.specs.of_cells_queue.Queue
