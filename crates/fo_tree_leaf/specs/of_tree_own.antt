pub use Rattle.fo_tree_down.specs.of_tree_own.Step
pub use Rattle.fo_tree_down.specs.of_tree_own.Shown
