pub mod Broken
pub mod Causes
pub mod Vac
pub mod Stands
pub mod Told
pub mod of_vac_dir
