pub use Rattle.fo_sparse.proofs.Lists
