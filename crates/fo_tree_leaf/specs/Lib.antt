pub mod of_tree_down
pub mod of_tree_look
pub mod of_tree_own
pub mod of_tree_read
