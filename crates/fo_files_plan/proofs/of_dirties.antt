pub use Rattle.fo_files_way.proofs.of_dirties.Adding
pub use Rattle.fo_files_way.proofs.of_dirties.Putting
