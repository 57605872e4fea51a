pub use Rattle.fo_tree_leaf.specs.of_tree_look.Source
pub use Rattle.fo_tree_leaf.specs.of_tree_look.declared
