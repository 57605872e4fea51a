pub use Rattle.fo_tree_down.specs.Alike
pub use Rattle.fo_tree_down.specs.Clear
pub use Rattle.fo_tree_down.specs.Way
