pub mod Counting
pub mod Trails
pub mod Blocks
pub mod Pairs
pub use Rattle.fo_files_way.proofs.of_files_at
pub use Rattle.fo_files_way.proofs as of_files_way
pub mod of_dirties
pub mod of_looks
