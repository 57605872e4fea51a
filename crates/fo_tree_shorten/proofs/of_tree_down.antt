pub use Rattle.fo_tree_link.proofs.of_tree_down.Join
pub use Rattle.fo_tree_link.proofs.of_tree_down.Topping
