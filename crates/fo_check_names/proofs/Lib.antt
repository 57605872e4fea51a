mod Finding
mod Missing
pub mod Moved
mod Orders
