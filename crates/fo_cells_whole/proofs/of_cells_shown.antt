pub use Rattle.fo_cells_shown.proofs.Opening
