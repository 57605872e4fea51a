pub use Rattle.fo_sparse.specs.Written
