pub mod Flags
pub mod Inside
pub mod Keeps
pub mod Marks
pub mod Table
pub mod Turns
