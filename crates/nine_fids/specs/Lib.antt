pub mod Fids
pub mod Looking
pub mod Modes
pub mod Refusing
pub mod Rights
pub mod Spelled
pub mod Told
