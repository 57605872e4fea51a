pub mod Causes
pub mod Serving
