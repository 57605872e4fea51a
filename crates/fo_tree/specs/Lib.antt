pub mod Writes
pub mod Laws
pub mod Entry
pub mod of_tree_look
pub mod of_tree_open
