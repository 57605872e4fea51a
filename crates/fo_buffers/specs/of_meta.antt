pub use Rattle.fo_slots.specs.of_meta.Leaf
