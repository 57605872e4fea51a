pub mod Leaf
pub mod Stays
pub mod Own
pub mod Takes
pub mod of_dir_change
