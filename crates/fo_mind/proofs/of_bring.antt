pub use Rattle.fo_bring.proofs.Buffering
