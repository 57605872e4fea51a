pub use Rattle.fo_dir_read.proofs.Looking
