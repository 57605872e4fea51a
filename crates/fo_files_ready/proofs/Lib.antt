pub mod Places
pub mod Sizes
pub mod Steps
pub use Rattle.fo_files_change.proofs as of_files_change
pub use Rattle.fo_files_change.proofs.of_files_leaf
