pub mod Into
pub use Rattle.fo_files_along.specs as of_files_along
pub use Rattle.fo_files_along.specs.of_files_at
pub use Rattle.fo_files_ready.specs.of_files_change
pub use Rattle.fo_files_ready.specs.of_files_leaf
pub use Rattle.fo_files_along.specs.of_files_look
pub use Rattle.fo_files_ready.specs as of_files_ready
pub use Rattle.fo_files_cut.specs.of_files_write
