pub use Rattle.fo_looks.specs.of_ports.Blocks
pub use Rattle.fo_looks.specs.of_ports.Causes
pub use Rattle.fo_looks.specs.of_ports.Sources
pub use Rattle.fo_looks.specs.of_ports.State
