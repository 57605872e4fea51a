pub mod Fit
pub mod Rules
