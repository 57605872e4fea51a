pub use Rattle.fo_tree_link.specs.of_tree_down.Clear
pub use Rattle.fo_tree_link.specs.of_tree_down.Way
