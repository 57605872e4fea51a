pub mod Moving
pub mod of_dir_put
pub mod of_dir_read
pub mod of_files_record
pub mod of_good
