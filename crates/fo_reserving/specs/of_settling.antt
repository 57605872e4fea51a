pub use Rattle.fo_settling.specs.Clearings
