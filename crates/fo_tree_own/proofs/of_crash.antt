pub use Rattle.fo_crash.proofs.Places
pub use Rattle.fo_crash.proofs.Reach
