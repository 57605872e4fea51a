pub use Rattle.fo_dir_put.proofs.of_dirties.Adding
pub use Rattle.fo_dir_put.proofs.of_dirties.Putting
