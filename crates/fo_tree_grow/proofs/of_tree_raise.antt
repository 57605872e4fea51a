pub use Rattle.fo_tree_raise.proofs.Adding
pub use Rattle.fo_tree_raise.proofs.Bearing
pub use Rattle.fo_tree_raise.proofs.Clear
pub use Rattle.fo_tree_raise.proofs.Climbing
pub use Rattle.fo_tree_raise.proofs.Levels
pub use Rattle.fo_tree_raise.proofs.Standing
