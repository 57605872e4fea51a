mod Edits
pub mod Leaves
pub mod Lists
