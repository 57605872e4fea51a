pub mod Set
pub mod of_tree_down
pub mod of_tree_link
