pub mod Plan
pub mod Owns
pub use Rattle.fo_files_at.specs as of_files_at
pub use Rattle.fo_files_at.specs.of_tree
pub use Rattle.fo_tree_shorten.specs as of_tree_shorten
pub mod of_tree_look
pub mod of_tree_read
