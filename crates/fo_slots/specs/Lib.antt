pub mod Formed
pub mod Read
pub mod Seen
pub mod of_crash
pub mod of_disk
pub mod of_image
pub mod of_meta
pub mod of_ports
