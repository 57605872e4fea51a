pub use Rattle.fo_tree_read.proofs.of_ports.Lengths
