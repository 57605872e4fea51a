pub use Rattle.fo_waits.specs.Ended
pub use Rattle.fo_waits.specs.Listed
pub use Rattle.fo_waits.specs.declared
