pub mod Quieting
