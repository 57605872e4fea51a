pub use Rattle.fo_tree_grow.specs.of_tree_raise.Levels
