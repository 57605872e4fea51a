mod Ways
pub mod Blocks
mod Walks
mod Leaves
mod Parts
