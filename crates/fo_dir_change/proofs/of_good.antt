pub use Rattle.fo_dir_put.proofs.of_good.Leaf
