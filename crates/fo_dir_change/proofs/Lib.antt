pub mod Without
pub mod Changed
pub mod Onced
pub mod of_dir_put
pub mod of_dirties
pub mod of_good
pub mod of_looks
