pub mod Empty
pub mod Lost
