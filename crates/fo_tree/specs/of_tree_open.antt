pub use Rattle.fo_tree_link.specs.of_tree_open.Open
