pub use Rattle.fo_dir_move.proofs.of_dir_put.Leaves
