pub mod Ranks
pub mod Sources
pub mod Listed
pub mod Rules
pub mod Settled
pub mod Example
pub mod Beside
