pub mod Carry
pub mod Placed
pub mod Standing
pub mod Stays
pub use Rattle.fo_files_ready.proofs.of_files_change
pub use Rattle.fo_files_ready.proofs.of_files_leaf
pub use Rattle.fo_files_ready.proofs as of_files_ready
