pub mod Forms
pub mod Tree
