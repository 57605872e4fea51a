pub use Rattle.fo_tree_leaf.specs.of_tree_own.Shown
