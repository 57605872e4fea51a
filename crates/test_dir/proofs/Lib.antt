pub mod Laid
pub mod Empty
