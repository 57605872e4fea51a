pub use Rattle.fo_looks.proofs.Dirtied
pub use Rattle.fo_looks.proofs.Free
pub use Rattle.fo_looks.proofs.Looks
