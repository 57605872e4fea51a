pub use Rattle.fo_base.specs.Text
