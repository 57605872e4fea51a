pub use Rattle.fo_closing.specs.Rest
