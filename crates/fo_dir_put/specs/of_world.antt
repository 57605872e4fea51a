pub use Rattle.fo_good.specs.of_world.Step
