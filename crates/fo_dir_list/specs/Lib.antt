pub mod Next
pub mod Numbered
pub mod Room
