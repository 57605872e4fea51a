pub mod Refusing
pub mod Edited
pub mod Roots
pub mod Carry
pub use Rattle.fo_files_into.proofs.of_files_along
pub use Rattle.fo_files_into.proofs.of_files_at
pub use Rattle.fo_files_into.proofs as of_files_into
pub use Rattle.fo_files_into.proofs.of_files_look
pub use Rattle.fo_files_into.proofs.of_files_write
