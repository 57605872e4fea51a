pub use Rattle.fo_rooms.specs.Grown
