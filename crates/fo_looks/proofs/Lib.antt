pub mod Dirtied
pub mod Free
pub mod Looks
pub mod of_crash
pub mod of_ports
