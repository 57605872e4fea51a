pub use Rattle.fo_dir_change.proofs.of_dirties.Adding
pub use Rattle.fo_dir_change.proofs.of_dirties.Putting
