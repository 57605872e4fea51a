pub use Rattle.fo_tree_grown.proofs.of_tree_leaf.Owning
