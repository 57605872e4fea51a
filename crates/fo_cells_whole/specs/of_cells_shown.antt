pub use Rattle.fo_cells_shown.specs.Opening
