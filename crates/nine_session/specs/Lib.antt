pub mod Attaching
pub mod Attempting
pub mod Opening
pub mod Reading
pub mod Removing
pub mod Session
pub mod Stating
pub mod Walking
