pub mod Source
pub mod Steps
pub mod SourceLaws
