pub use Rattle.fo_tree_link.specs.Change
pub use Rattle.fo_tree_link.specs.Link
