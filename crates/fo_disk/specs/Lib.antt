pub mod Disk
pub mod File
pub mod Memory
pub mod MemoryLaws
pub mod Sure
pub mod of_base
