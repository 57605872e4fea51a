pub use Rattle.fo_dir_change.proofs.of_dir_put.Leaves
