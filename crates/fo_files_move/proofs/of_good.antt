pub use Rattle.fo_dir_move.proofs.of_good.Leaf
