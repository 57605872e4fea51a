pub use Rattle.fo_rooms.specs.of_linking.Joined
