pub mod Open
pub mod of_image
pub mod of_ports
