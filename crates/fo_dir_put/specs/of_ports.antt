pub use Rattle.fo_ports.specs.Sources
