pub use Rattle.fo_shown.specs.Alike
pub use Rattle.fo_shown.specs.Shown
