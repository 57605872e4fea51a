pub use Rattle.fo_tree_down.proofs.of_tree_own.Link
pub use Rattle.fo_tree_down.proofs.of_tree_own.Showing
