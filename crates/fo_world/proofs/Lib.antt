pub mod Texts
pub mod Steps
pub mod Going
pub mod Fits
mod Changes
mod Ascending
