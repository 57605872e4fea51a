pub mod Looking
pub mod Pairs
pub mod Rows
pub mod of_looks
