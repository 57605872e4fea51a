pub use Rattle.fo_meta.proofs.Leaves
