pub use Rattle.fo_dirties.proofs.of_looks.Looks
