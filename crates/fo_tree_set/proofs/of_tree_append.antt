pub use Rattle.fo_tree_append.proofs.Joining
