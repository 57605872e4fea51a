pub use Rattle.fo_looks.proofs.Looks
