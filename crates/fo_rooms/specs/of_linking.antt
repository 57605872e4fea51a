pub use Rattle.fo_linking.specs.Joined
