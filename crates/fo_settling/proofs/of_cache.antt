pub use Rattle.fo_cache.proofs.Calling
pub use Rattle.fo_cache.proofs.Easing
pub use Rattle.fo_cache.proofs.Firsts
pub use Rattle.fo_cache.proofs.Outcomes
