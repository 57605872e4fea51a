pub use Rattle.fo_ports.specs.Alike
pub use Rattle.fo_ports.specs.Shown
