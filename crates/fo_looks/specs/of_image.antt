pub use Rattle.fo_ports.specs.of_image.Format
pub use Rattle.fo_ports.specs.of_image.declared
