pub mod Newlines
pub mod Running
pub mod Going
