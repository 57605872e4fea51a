pub mod Ending
pub mod Finished
pub mod Loads
pub mod Opens
pub mod Refuses
pub mod of_mind
