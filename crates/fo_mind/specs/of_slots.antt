pub use Rattle.fo_slots.specs.Read
