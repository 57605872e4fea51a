pub use Rattle.fo_crash.specs.Images
pub use Rattle.fo_crash.specs.Places
pub use Rattle.fo_crash.specs.declared
