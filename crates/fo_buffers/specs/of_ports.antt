pub use Rattle.fo_slots.specs.of_ports.Blocks
pub use Rattle.fo_slots.specs.of_ports.Causes
