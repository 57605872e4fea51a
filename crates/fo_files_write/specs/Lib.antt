pub mod Alters
pub mod Data
pub use Rattle.fo_tree_shorten.specs as of_tree_shorten
