pub use Rattle.fo_ports.proofs.of_crash.Places
pub use Rattle.fo_ports.proofs.of_crash.Reach
