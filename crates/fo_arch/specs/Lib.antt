pub mod Archive
pub mod Finish
pub mod Forms
pub mod Stores
