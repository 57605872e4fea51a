pub mod Device
pub mod Fresh
pub mod Image
pub mod Sizes
pub mod Sound
pub mod of_disk
