pub use Rattle.fo_cells_turns.specs.Opening
