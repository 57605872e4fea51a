pub use Rattle.fo_tree_down.proofs.Beside
pub use Rattle.fo_tree_down.proofs.Join
pub use Rattle.fo_tree_down.proofs.Next
pub use Rattle.fo_tree_down.proofs.Topping
