pub use Rattle.fo_looks.specs.of_crash.Images
pub use Rattle.fo_looks.specs.of_crash.Places
pub use Rattle.fo_looks.specs.of_crash.declared
