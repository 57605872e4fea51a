pub mod Along
pub use Rattle.fo_files_plan.specs.of_files_at
pub use Rattle.fo_files_look.specs as of_files_look
