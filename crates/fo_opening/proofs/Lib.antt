pub mod Finishing
pub mod Lasting
pub mod Loading
pub mod Refusing
pub mod Stepping
