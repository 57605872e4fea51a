pub use Rattle.fo_cache.proofs.of_mind.Results
