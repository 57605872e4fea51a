pub mod Giving
pub mod Closing
pub mod Indexing
pub mod Aside
pub mod of_cells_puts
