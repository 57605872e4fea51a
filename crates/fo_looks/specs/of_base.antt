pub use Rattle.fo_ports.specs.of_base.Cause
