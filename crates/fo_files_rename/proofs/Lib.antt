pub mod Counting
pub mod Owning
pub mod Carried
pub mod Causes
pub mod Finding
pub mod Settling
