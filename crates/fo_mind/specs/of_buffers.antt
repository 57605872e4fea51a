pub use Rattle.fo_buffers.specs.Held
pub use Rattle.fo_buffers.specs.declared
