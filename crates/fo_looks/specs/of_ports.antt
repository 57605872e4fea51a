pub use Rattle.fo_ports.specs.Blocks
pub use Rattle.fo_ports.specs.Causes
pub use Rattle.fo_ports.specs.Sources
pub use Rattle.fo_ports.specs.State
pub use Rattle.fo_ports.specs.declared
