pub use Rattle.fo_looks.proofs.of_ports.Lengths
