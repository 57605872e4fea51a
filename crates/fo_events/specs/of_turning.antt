pub use Rattle.fo_turning.specs.Flushes
pub use Rattle.fo_turning.specs.Freed
pub use Rattle.fo_turning.specs.Unlinks
pub use Rattle.fo_turning.specs.declared
