pub mod Append
pub mod Rises
pub mod Grown
pub use Rattle.fo_tree_clear.specs as of_tree_clear
pub use Rattle.fo_tree_lift.specs.of_tree_grow
pub use Rattle.fo_tree_lift.specs as of_tree_lift
pub use Rattle.fo_tree_write.specs as of_tree_write
