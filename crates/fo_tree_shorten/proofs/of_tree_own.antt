pub use Rattle.fo_tree_link.proofs.of_tree_own.Link
