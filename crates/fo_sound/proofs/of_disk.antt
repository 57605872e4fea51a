pub use Rattle.fo_disk.proofs.Moments
pub use Rattle.fo_disk.proofs.Quiet
