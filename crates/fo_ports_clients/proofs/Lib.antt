pub mod Leaf
pub mod Own
pub mod Tree
pub mod Copies
pub mod Looking
pub mod Raise
pub mod Raising
mod Refusing
