pub use Rattle.fo_tree_leaf.proofs.of_tree_down.Alikes
pub use Rattle.fo_tree_leaf.proofs.of_tree_down.Beside
pub use Rattle.fo_tree_leaf.proofs.of_tree_down.Dirtying
