pub use Rattle.fo_bring.specs.Blocks
