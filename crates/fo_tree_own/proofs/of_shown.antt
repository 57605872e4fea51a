pub use Rattle.fo_shown.proofs.Alikes
pub use Rattle.fo_shown.proofs.Copying
pub use Rattle.fo_shown.proofs.Showing
pub use Rattle.fo_shown.proofs.Ways
