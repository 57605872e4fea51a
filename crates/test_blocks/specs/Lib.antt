pub mod Asked
pub mod Change
pub mod Room
pub mod Silent
pub mod SilentLaws
pub mod SilentParts
pub mod SilentProps
