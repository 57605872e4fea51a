pub mod Minds
