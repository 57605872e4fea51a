pub mod Records
pub use Rattle.fo_files_leaf.proofs as of_files_leaf
