pub use Rattle.fo_tree_down.specs.Clear
