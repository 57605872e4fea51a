pub mod Changes
pub mod of_dir_put
pub mod of_good
pub mod of_shown
pub mod of_world
