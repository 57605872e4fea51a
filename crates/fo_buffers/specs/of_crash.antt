pub use Rattle.fo_slots.specs.of_crash.Images
pub use Rattle.fo_slots.specs.of_crash.declared
