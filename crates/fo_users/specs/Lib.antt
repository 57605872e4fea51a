pub mod Table
pub mod Rights
pub mod Parts
pub mod Found
pub mod Seen
