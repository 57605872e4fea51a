pub mod Stat
pub mod Cut
pub mod Writing
