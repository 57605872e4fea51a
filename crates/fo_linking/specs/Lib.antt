pub mod Joined
pub mod Roomy
pub mod Steps
pub mod of_buffers
