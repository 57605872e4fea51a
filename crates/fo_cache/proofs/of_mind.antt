pub use Rattle.fo_mind.proofs.Results
