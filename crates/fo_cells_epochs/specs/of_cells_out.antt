pub use Rattle.fo_cells_out.specs.Parents
pub use Rattle.fo_cells_out.specs.Removals
