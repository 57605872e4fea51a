pub mod Resting
pub mod Lengths
pub mod of_tree_append
pub mod of_tree_trim
