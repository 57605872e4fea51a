pub mod Alters
pub mod Leaf
