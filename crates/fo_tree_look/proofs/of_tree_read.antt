pub use Rattle.fo_tree_read.proofs.Exits
pub use Rattle.fo_tree_read.proofs.Walk
