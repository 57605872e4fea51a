pub use Rattle.fo_good.specs.Trees
