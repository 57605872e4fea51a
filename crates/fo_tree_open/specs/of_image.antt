pub use Rattle.fo_image.specs.declared
