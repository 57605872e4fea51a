pub use Rattle.fo_tree_clear.proofs.of_tree_leaf.Owning
