pub mod Fields
pub mod Asks
pub mod Edit
pub use Rattle.fo_files_into.specs.of_files_along
pub use Rattle.fo_files_into.specs.of_files_at
pub use Rattle.fo_files_into.specs as of_files_into
pub use Rattle.fo_files_into.specs.of_files_look
pub use Rattle.fo_files_into.specs.of_files_write
