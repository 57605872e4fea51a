pub mod Answering
pub mod Granting
pub mod Opening
pub mod Parts
pub mod Reading
pub mod Removing
pub mod Stating
pub mod Walking
