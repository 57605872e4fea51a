pub use Rattle.fo_tree_own.specs.of_crash.Images
