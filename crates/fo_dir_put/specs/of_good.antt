pub use Rattle.fo_good.specs.Reading
pub use Rattle.fo_good.specs.Trees
