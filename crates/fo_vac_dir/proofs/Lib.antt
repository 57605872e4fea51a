pub mod Names
mod Records
mod Finds
