pub mod Way
pub mod Clear
pub mod Alike
pub mod of_crash
pub mod of_tree_own
