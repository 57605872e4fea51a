pub mod Ground
pub mod Opening
pub mod Leaves
pub mod Putting
pub mod Linking
pub mod Staying
