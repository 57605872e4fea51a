pub use Rattle.fo_cells.proofs.Calls
pub use Rattle.fo_cells.proofs.Giving
pub use Rattle.fo_cells.proofs.SafeCalls
pub use Rattle.fo_cells.proofs.SafeSteps
pub use Rattle.fo_cells.proofs.Standing
