mod FreshRoot
pub mod Labels
pub mod of_disk
