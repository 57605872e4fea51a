pub mod Tree
pub mod Reading
pub mod of_crash
pub mod of_ports
