pub mod Sorts
pub mod Leads
pub mod Likes
pub mod Linking
pub mod Sames
pub mod Leading
