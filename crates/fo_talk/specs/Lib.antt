pub mod Conversation
pub mod Ending
pub mod Answering
pub mod Stopping
