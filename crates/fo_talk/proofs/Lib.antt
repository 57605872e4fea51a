pub mod Later
pub mod Talking
pub mod Front
pub mod Letting
pub mod Entries
pub mod Going
pub mod Putting
