pub mod Cut
pub mod Top
pub mod Vac
