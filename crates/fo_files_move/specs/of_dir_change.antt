pub use Rattle.fo_dir_move.specs.of_dir_change.Changes
