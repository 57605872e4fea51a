pub use Rattle.fo_tree_leaf.specs.of_tree_down.Alike
pub use Rattle.fo_tree_leaf.specs.of_tree_down.Clear
pub use Rattle.fo_tree_leaf.specs.of_tree_down.Way
