pub use Rattle.fo_tree_leaf.proofs.of_tree_own.Showing
