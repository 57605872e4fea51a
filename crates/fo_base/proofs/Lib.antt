pub mod Cutting
mod Texts
