pub mod Leaf
pub mod Own
pub mod Refused
pub mod Top
