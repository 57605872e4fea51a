pub mod Link
pub mod May
pub mod After
pub mod Here
pub mod Filling
pub mod of_crash
pub mod of_shown
