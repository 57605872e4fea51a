pub use Rattle.fo_tree_open.proofs.Opened
