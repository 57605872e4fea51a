pub use Rattle.fo_tree_trim.specs.Cut
pub use Rattle.fo_tree_trim.specs.Trim
