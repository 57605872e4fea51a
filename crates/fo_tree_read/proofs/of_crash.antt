pub use Rattle.fo_looks.proofs.of_crash.Places
pub use Rattle.fo_looks.proofs.of_crash.Reach
