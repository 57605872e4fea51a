pub use Rattle.fo_tree_raise.specs.Levels
pub use Rattle.fo_tree_raise.specs.Raise
