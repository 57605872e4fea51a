pub use Rattle.fo_cells_all.proofs.All
