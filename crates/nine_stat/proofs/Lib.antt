pub mod Records
pub mod Cutting
