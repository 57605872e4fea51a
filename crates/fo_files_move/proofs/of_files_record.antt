pub use Rattle.fo_files_record.proofs.Owned
pub use Rattle.fo_files_record.proofs.Rewriting
