pub use Rattle.fo_cells.specs.Known
pub use Rattle.fo_cells.specs.Safe
pub use Rattle.fo_cells.specs.Writes
