pub use Rattle.fo_crash.specs.Images
pub use Rattle.fo_crash.specs.Spots
