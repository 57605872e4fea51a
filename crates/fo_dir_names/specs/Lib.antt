pub mod Names
pub mod Rules
pub mod Settled
pub mod Example
