pub mod Missing
pub mod Staying
pub mod Errors
pub mod Userly
pub mod Tables
pub mod Placing
pub mod Seeing
pub mod Spelling
