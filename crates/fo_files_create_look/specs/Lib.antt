pub mod Named
pub mod Found
pub mod Refused
pub use Rattle.fo_files_along.specs as of_files_along
pub use Rattle.fo_files_along.specs.of_files_at
pub use Rattle.fo_files_along.specs.of_files_look
pub use Rattle.fo_files_spot.specs as of_files_spot
