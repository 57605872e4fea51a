pub use Rattle.fo_taking.specs.Taken
