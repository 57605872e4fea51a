pub mod Adds
pub mod of_dir_put
