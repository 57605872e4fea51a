pub mod Telling
pub mod Reading
pub use Rattle.fo_files_at.proofs as of_files_at
