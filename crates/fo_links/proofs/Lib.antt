pub mod Buffer
pub mod Giving
pub mod Known
