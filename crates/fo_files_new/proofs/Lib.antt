pub mod Dirtying
pub mod Dirs
pub mod Putting
pub use Rattle.fo_files_leaf.proofs as of_files_leaf
