pub use Rattle.fo_dirties.proofs.Adding
pub use Rattle.fo_dirties.proofs.Dirtied
pub use Rattle.fo_dirties.proofs.Putting
