pub use Rattle.fo_tree_look.proofs.Held
pub use Rattle.fo_tree_look.proofs.Places
pub use Rattle.fo_tree_look.proofs.Shown
