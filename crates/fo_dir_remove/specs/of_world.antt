pub use Rattle.fo_dir_change.specs.of_world.Step
