pub use Rattle.fo_tree_link.specs.Link
