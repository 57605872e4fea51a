pub mod Grouping
pub mod Leaves
pub mod RegionLaws
pub mod Spelling
pub mod Trees
pub mod Usable
