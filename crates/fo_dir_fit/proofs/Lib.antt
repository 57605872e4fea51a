pub mod Spots
pub mod Holders
pub mod Listed
pub mod Rules
pub mod Example
