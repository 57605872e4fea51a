pub mod Steps
pub mod Ends
pub use Rattle.fo_tree_shorten.proofs as of_tree_shorten
