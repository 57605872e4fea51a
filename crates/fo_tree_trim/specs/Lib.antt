pub mod Behind
pub mod Cut
pub mod Trim
pub mod of_tree_down
pub mod of_tree_own
