pub use Rattle.fo_good.proofs.Leaf
