pub use Rattle.fo_cells_queue.specs.Queue
