pub use Rattle.fo_ports.proofs.Lengths
