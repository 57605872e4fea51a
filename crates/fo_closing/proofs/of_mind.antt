pub use Rattle.fo_mind.proofs.Giving
pub use Rattle.fo_mind.proofs.Refilling
pub use Rattle.fo_mind.proofs.Releasing
pub use Rattle.fo_mind.proofs.Results
pub use Rattle.fo_mind.proofs.Unpinning
