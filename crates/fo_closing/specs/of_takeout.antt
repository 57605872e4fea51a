pub use Rattle.fo_mind.specs.of_takeout.Walking
