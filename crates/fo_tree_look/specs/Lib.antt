pub mod Source
pub mod of_crash
pub mod of_image
pub mod of_ports
pub mod of_tree_read
