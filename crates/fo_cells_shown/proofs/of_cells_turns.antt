pub use Rattle.fo_cells_turns.proofs.Opening
pub use Rattle.fo_cells_turns.proofs.Turns
