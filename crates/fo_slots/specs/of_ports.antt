pub use Rattle.fo_ports.specs.Blocks
pub use Rattle.fo_ports.specs.Causes
