pub use Rattle.fo_tree_leaf.proofs.of_tree_down.Alikes
pub use Rattle.fo_tree_leaf.proofs.of_tree_down.Beside
pub use Rattle.fo_tree_leaf.proofs.of_tree_down.Dirtying
pub use Rattle.fo_tree_leaf.proofs.of_tree_down.Join
pub use Rattle.fo_tree_leaf.proofs.of_tree_down.Leading
pub use Rattle.fo_tree_leaf.proofs.of_tree_down.Next
pub use Rattle.fo_tree_leaf.proofs.of_tree_down.Sparing
pub use Rattle.fo_tree_leaf.proofs.of_tree_down.Stilling
