pub use Rattle.fo_labels.specs.Region
