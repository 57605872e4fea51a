pub use Rattle.fo_events.specs.Row
