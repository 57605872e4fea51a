pub use Rattle.fo_tree.proofs.of_tree_leaf.Owning
