pub mod Begins
pub mod Whys
pub use Rattle.fo_devices.specs as of_devices
pub use Rattle.fo_opening.specs as of_opening
pub use Rattle.fo_devices.specs.of_settling
pub mod of_check_image
