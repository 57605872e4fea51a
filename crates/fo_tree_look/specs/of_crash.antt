pub use Rattle.fo_tree_read.specs.of_crash.Images
pub use Rattle.fo_tree_read.specs.of_crash.Places
pub use Rattle.fo_tree_read.specs.of_crash.declared
