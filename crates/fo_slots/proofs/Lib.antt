pub mod Answering
pub mod Beside
pub mod Leaving
pub mod Meaning
pub mod Putting
pub mod Rooting
