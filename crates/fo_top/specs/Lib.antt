pub mod Ending
pub mod Served
pub mod Texts
pub mod Tools
pub mod Words
