pub use Rattle.fo_meta.specs.Leaf
