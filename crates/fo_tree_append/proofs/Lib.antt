pub mod Joining
pub mod Leaves
pub mod Behind
pub mod Pieces
pub mod Raising
pub mod Rising
pub mod Seeing
pub mod Shaping
pub mod Spending
pub mod Values
pub use Rattle.fo_tree_clear.proofs as of_tree_clear
pub use Rattle.fo_tree_lift.proofs.of_tree_grow
pub use Rattle.fo_tree_lift.proofs as of_tree_lift
pub use Rattle.fo_tree_write.proofs as of_tree_write
