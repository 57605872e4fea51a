pub use Rattle.fo_shown.specs.Shown
