pub use Rattle.fo_cache.specs.of_mind.Lawful
pub use Rattle.fo_cache.specs.of_mind.Laws
pub use Rattle.fo_cache.specs.of_mind.MindParts
pub use Rattle.fo_cache.specs.of_mind.Parts
pub use Rattle.fo_cache.specs.of_mind.declared
