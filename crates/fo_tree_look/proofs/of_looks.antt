pub use Rattle.fo_tree_read.proofs.of_looks.Dirtied
pub use Rattle.fo_tree_read.proofs.of_looks.Free
pub use Rattle.fo_tree_read.proofs.of_looks.Looks
