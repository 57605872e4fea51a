pub use Rattle.fo_dir_put.proofs.Leaves
