pub use Rattle.fo_tree_open.specs.Open
