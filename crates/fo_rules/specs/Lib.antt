pub mod Label
pub mod Leaf
pub mod of_good
