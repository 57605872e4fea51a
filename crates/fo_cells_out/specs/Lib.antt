pub mod Removals
pub mod Parents
pub mod Origins
