pub mod Still
pub mod Giving
pub mod Turns
pub mod Rest
pub mod Counting
pub mod Dropping
