pub use Rattle.fo_base.specs.Cause
