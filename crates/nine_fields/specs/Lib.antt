pub mod Field
pub mod Reading
pub mod Parts
pub mod Front
