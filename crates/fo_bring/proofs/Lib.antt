pub mod Bringing
pub mod Buffering
pub mod Copying
