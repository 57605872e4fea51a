pub use Rattle.fo_tree_own.specs.Step
pub use Rattle.fo_tree_own.specs.of_shown.Shown
pub use Rattle.fo_tree_own.specs.of_shown.Alike
