pub use Rattle.fo_tree_grow.proofs.of_tree_raise.Adding
pub use Rattle.fo_tree_grow.proofs.of_tree_raise.Clear
pub use Rattle.fo_tree_grow.proofs.of_tree_raise.Climbing
