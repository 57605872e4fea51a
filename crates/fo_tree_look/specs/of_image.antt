pub use Rattle.fo_image.specs.Format
pub use Rattle.fo_image.specs.declared
