pub use Rattle.fo_tree_read.specs.of_ports.Blocks
pub use Rattle.fo_tree_read.specs.of_ports.Sources
pub use Rattle.fo_tree_read.specs.of_ports.State
