pub mod Removes
pub mod of_dir_change
pub mod of_dir_put
pub mod of_world
