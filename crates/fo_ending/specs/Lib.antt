pub mod Ended
pub mod Steps
pub use Rattle.fo_reserving.specs as of_reserving
pub mod of_cache
pub mod of_closing
pub mod of_mind
