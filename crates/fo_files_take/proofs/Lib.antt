pub mod Refusing
pub mod Taking
pub mod Whole
pub use Rattle.fo_files_along.proofs as of_files_along
pub use Rattle.fo_files_along.proofs.of_files_look
