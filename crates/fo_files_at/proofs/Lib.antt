pub mod Joining
pub mod Roots
pub mod Ways
pub use Rattle.fo_tree.proofs as of_tree
pub mod of_looks
pub mod of_tree_leaf
