pub use Rattle.fo_dir_move.specs.Moves
