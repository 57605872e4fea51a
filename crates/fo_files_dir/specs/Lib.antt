pub mod Dir
pub mod of_tree_open
