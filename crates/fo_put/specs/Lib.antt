pub mod Queued
pub mod Removed
