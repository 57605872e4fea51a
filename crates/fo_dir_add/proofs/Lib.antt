pub mod Added
pub mod of_dir_put
