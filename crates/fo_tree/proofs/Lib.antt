pub mod Looking
pub mod Plain
pub mod Hanging
pub mod Relinking
pub mod Beside
pub mod Alikes
pub mod of_tree_leaf
