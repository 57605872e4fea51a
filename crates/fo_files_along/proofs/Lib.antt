pub mod Standing
pub mod Ways
pub mod Refusing
pub mod Pairs
pub mod Whole
pub mod Both
pub mod Apart
pub use Rattle.fo_files_plan.proofs.of_files_at
pub use Rattle.fo_files_look.proofs as of_files_look
