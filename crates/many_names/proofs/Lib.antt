pub mod Picking
pub mod Quieting
