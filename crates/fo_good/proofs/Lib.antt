pub mod Fits
pub mod Keeps
pub mod Opening
pub mod Once
pub mod Leaf
pub mod Fresh
pub mod Built
