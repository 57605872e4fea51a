pub mod Told
pub use Rattle.fo_files_at.specs as of_files_at
