pub use Rattle.fo_bring.specs.Blocks
pub use Rattle.fo_bring.specs.Holds
