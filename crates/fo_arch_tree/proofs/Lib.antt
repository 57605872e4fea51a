mod Alike
mod Dirs
mod Empty
mod Leaves
pub mod Root
mod Sides
mod Sources
mod Steps
mod Tails
mod Top
