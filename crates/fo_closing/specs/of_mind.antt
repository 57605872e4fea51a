pub use Rattle.fo_mind.specs.Due
pub use Rattle.fo_mind.specs.Laws
pub use Rattle.fo_mind.specs.MindParts
pub use Rattle.fo_mind.specs.Parts
pub use Rattle.fo_mind.specs.Roomed
pub use Rattle.fo_mind.specs.Sound
pub use Rattle.fo_mind.specs.Turning
