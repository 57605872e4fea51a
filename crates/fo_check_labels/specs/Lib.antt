pub mod Cause
pub mod Known
pub mod Table
pub mod Watch
