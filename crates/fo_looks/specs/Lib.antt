pub mod of_base
pub mod of_crash
pub mod of_image
pub mod of_ports
