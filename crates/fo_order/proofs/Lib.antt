pub mod Falling
pub mod Keeping
pub mod Tabling
pub mod Turning
