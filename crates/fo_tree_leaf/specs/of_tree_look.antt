pub use Rattle.fo_tree_look.specs.Source
pub use Rattle.fo_tree_look.specs.declared
