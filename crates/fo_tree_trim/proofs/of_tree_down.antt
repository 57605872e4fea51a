pub use Rattle.fo_tree_down.proofs.Topping
