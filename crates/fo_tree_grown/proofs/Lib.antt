pub mod Leaves
pub mod Tops
pub mod Joining
pub mod Raising
pub mod of_tree_leaf
