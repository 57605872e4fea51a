pub use Rattle.fo_tree_trim.proofs.Along
pub use Rattle.fo_tree_trim.proofs.Least
