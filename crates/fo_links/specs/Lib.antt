pub mod Clocks
pub mod Filling
pub mod Links
pub mod Memory
pub mod MemClock
pub mod MemSource
pub mod System
