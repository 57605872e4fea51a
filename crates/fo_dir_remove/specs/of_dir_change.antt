pub use Rattle.fo_dir_change.specs.Changes
