pub use Rattle.fo_cells_all.specs.All
