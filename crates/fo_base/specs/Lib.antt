pub mod Cause
pub mod Parts
pub mod Text
