pub use Rattle.fo_cells_held.specs.Room
