pub mod Dirs
