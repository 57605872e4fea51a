pub mod Rewriting
pub mod Owned
pub mod Rooted
pub mod Going
pub mod of_dir_put
