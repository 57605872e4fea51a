pub mod Join
pub mod Lifting
pub mod Above
pub mod Having
pub mod Ending
pub mod Choosing
pub use Rattle.fo_tree_grow.proofs as of_tree_grow
pub mod of_tree_raise
