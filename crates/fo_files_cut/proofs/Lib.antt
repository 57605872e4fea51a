pub mod Sets
pub use Rattle.fo_files_write.proofs as of_files_write
