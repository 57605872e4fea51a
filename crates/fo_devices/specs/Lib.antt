pub mod Fetched
pub mod Laws
pub mod Seen
pub use Rattle.fo_settling.specs as of_settling
