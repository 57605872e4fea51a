pub mod Take
pub use Rattle.fo_files_along.specs as of_files_along
pub use Rattle.fo_files_along.specs.of_files_look
