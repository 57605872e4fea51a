pub use Rattle.fo_buffers.specs.Held
