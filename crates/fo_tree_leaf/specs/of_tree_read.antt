pub use Rattle.fo_tree_look.specs.of_tree_read.Tree
pub use Rattle.fo_tree_look.specs.of_tree_read.declared
