pub use Rattle.fo_files_way.proofs.of_looks.Looks
