pub mod Shorten
pub mod of_tree_down
pub mod of_tree_link
pub mod of_tree_open
pub mod of_tree_trim
