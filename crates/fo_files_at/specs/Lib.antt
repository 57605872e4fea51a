pub mod Held
pub mod Way
pub use Rattle.fo_tree.specs as of_tree
pub mod of_tree_look
