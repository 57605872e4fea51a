pub use Rattle.fo_rooms.specs.of_takeout.Meeting
pub use Rattle.fo_rooms.specs.of_takeout.Walking
pub use Rattle.fo_rooms.specs.of_takeout.declared
