pub use Rattle.fo_tree_trim.proofs.Above
pub use Rattle.fo_tree_trim.proofs.Along
pub use Rattle.fo_tree_trim.proofs.Knowing
pub use Rattle.fo_tree_trim.proofs.Least
pub use Rattle.fo_tree_trim.proofs.Past
