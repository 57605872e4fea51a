pub use Rattle.fo_mind.specs.MindParts
pub use Rattle.fo_mind.specs.Parts
pub use Rattle.fo_mind.specs.declared
