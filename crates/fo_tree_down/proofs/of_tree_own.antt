pub use Rattle.fo_tree_own.proofs.Filling
pub use Rattle.fo_tree_own.proofs.Link
pub use Rattle.fo_tree_own.proofs.of_shown.Copying
pub use Rattle.fo_tree_own.proofs.of_shown.Showing
pub use Rattle.fo_tree_own.proofs.of_shown.Alikes
pub use Rattle.fo_tree_own.proofs.of_shown.Ways
