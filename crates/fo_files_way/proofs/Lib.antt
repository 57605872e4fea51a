pub mod Prepared
pub mod Stays
pub mod One
pub mod Joining
pub mod Next
pub mod Going
pub mod Adding
pub use Rattle.fo_files_at.proofs as of_files_at
pub use Rattle.fo_files_at.proofs.of_tree
pub use Rattle.fo_tree_shorten.proofs as of_tree_shorten
pub mod of_dirties
pub mod of_looks
pub mod of_tree_look
