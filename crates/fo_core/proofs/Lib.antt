pub mod Fewer
mod Happening
mod Ending
