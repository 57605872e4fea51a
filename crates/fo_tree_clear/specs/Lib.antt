pub mod Put
pub mod Steps
pub mod of_tree_down
pub mod of_tree_look
pub mod of_tree_own
