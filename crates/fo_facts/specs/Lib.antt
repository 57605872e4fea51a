pub mod Counted
pub mod Counts
pub mod Known
pub mod Packed
