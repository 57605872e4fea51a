pub mod Grow
pub mod of_tree_down
pub mod of_tree_own
pub mod of_tree_raise
