pub mod Letting
pub mod Turning
pub mod Doing
