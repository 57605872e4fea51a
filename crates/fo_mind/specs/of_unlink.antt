pub use Rattle.fo_unlink.specs.declared
