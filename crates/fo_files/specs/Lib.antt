pub mod Kept
pub mod Laws
pub use Rattle.fo_files_take.specs.of_files_along
pub use Rattle.fo_files_take.specs.of_files_look
