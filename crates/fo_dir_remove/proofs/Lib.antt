pub mod Goes
pub mod Unnamed
pub mod of_dir_put
pub mod of_dirties
pub mod of_looks
