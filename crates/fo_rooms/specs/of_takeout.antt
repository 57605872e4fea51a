pub use Rattle.fo_takeout.specs.Meeting
pub use Rattle.fo_takeout.specs.Walking
pub use Rattle.fo_takeout.specs.declared
