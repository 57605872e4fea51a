pub use Rattle.fo_dir_read.proofs.of_looks.Looks
