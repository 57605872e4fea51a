pub use Rattle.fo_ports.specs.of_crash.Images
pub use Rattle.fo_ports.specs.of_crash.Places
pub use Rattle.fo_ports.specs.of_crash.declared
