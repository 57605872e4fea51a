pub mod Link
pub mod Change
pub mod of_tree_down
pub mod of_tree_open
