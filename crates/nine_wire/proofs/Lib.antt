pub mod Tables
pub mod Laws
pub mod Framing
pub mod Texts
pub mod Sizes
