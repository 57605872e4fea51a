mod Names
mod Settled
mod Bytes
mod LineBlocks
mod Lines
mod Synced
mod Keeping
pub mod Puts
mod Openings
mod Recents
pub mod Empty
