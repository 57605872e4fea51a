pub use Rattle.fo_mind.specs.of_waits.Ended
pub use Rattle.fo_mind.specs.of_waits.Listed
pub use Rattle.fo_mind.specs.of_waits.declared
