pub use Rattle.fo_tree_read.proofs.of_crash.Places
pub use Rattle.fo_tree_read.proofs.of_crash.Reach
