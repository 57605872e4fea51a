pub mod Refusing
pub mod Ways
pub use Rattle.fo_files_along.proofs as of_files_along
pub use Rattle.fo_files_along.proofs.of_files_at
pub use Rattle.fo_files_along.proofs.of_files_look
