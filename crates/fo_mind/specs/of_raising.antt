pub use Rattle.fo_raising.specs.Raised
