pub use Rattle.fo_dir_remove.proofs.of_dir_put.Leaves
