pub use Rattle.fo_dir_remove.specs.of_dir_change.Changes
