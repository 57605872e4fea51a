pub use Rattle.fo_settling.proofs.Clearing
pub use Rattle.fo_settling.proofs.Waiting
