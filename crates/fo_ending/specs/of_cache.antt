pub use Rattle.fo_cache.specs.Easing
pub use Rattle.fo_cache.specs.Supers
pub use Rattle.fo_cache.specs.Work
