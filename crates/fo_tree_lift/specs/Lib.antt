pub mod Lift
pub mod Owns
pub use Rattle.fo_tree_grow.specs as of_tree_grow
pub mod of_tree_raise
