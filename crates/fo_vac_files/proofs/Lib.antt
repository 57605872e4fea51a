mod Clean
mod Entered
mod Going
pub mod Saying
