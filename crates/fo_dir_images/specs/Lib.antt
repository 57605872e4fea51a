pub mod Leaves
pub mod Whole
pub mod Sources
pub mod Example
pub mod Alone
