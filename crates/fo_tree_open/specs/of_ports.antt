pub use Rattle.fo_tree_look.specs.of_ports.Sources
pub use Rattle.fo_tree_look.specs.of_ports.State
