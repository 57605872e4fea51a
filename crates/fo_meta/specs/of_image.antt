pub use Rattle.fo_image.specs.Field
pub use Rattle.fo_image.specs.Format
pub use Rattle.fo_image.specs.Record
pub use Rattle.fo_image.specs.Usable
pub use Rattle.fo_image.specs.declared
