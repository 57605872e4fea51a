pub use Rattle.fo_cells_begin.specs.Begin
