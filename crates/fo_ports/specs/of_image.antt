pub use Rattle.fo_meta.specs.of_image.Format
pub use Rattle.fo_meta.specs.of_image.Usable
pub use Rattle.fo_meta.specs.of_image.declared
