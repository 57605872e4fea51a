pub mod Held
pub mod Laws
pub mod Room
pub mod of_labels
