pub use Rattle.fo_dir_put.proofs.of_looks.Looks
