pub mod Adding
pub mod Putting
pub use Rattle.fo_looks.proofs.Dirtied
pub mod of_looks
