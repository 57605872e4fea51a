pub mod Raise
pub mod Levels
pub mod of_tree_read
