pub mod Along
pub mod Owned
pub use Rattle.fo_files_way.specs.of_files_at
pub use Rattle.fo_files_way.specs as of_files_way
