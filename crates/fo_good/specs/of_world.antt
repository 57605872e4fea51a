pub use Rattle.fo_world.specs.Step
