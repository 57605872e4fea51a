pub use Rattle.fo_cells_puts.proofs.Linking
