mod Answering
mod Codes
mod Offsets
pub mod Padding
pub mod Pieces
pub mod PointerLemmas
pub mod RecordLemmas
