pub use Rattle.fo_tree_read.specs.Tree
pub use Rattle.fo_tree_read.specs.declared
