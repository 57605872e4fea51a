pub use Rattle.fo_tree_leaf.proofs.Owning
