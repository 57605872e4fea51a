pub mod Ready
pub use Rattle.fo_files_change.specs as of_files_change
pub use Rattle.fo_files_change.specs.of_files_leaf
