pub mod Choice
pub mod Dir
