pub use Rattle.fo_check_image.specs.Answer
pub use Rattle.fo_check_image.specs.declared
