pub mod Sizing
pub mod Growing
pub mod Empty
pub mod of_tree_down
pub mod of_tree_leaf
pub mod of_tree_own
pub mod of_tree_raise
