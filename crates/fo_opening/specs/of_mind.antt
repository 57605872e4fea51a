pub use Rattle.fo_mind.specs.MindParts
pub use Rattle.fo_mind.specs.Parts
