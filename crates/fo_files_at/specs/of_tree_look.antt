pub use Rattle.fo_tree.specs.of_tree_look.Source
