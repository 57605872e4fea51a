pub mod WordLemmas
pub mod Commands
pub mod ReplyLemmas
