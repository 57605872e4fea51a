pub mod Rig
pub mod Linked
