pub mod New
pub use Rattle.fo_files_leaf.specs as of_files_leaf
pub mod of_dir_add
