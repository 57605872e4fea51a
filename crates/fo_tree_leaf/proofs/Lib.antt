pub mod Owning
pub mod of_looks
pub mod of_tree_down
pub mod of_tree_look
pub mod of_tree_own
