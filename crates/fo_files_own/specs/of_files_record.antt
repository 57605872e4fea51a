pub use Rattle.fo_files_record.specs.Leaf
pub use Rattle.fo_files_record.specs.Own
pub use Rattle.fo_files_record.specs.Stays
pub use Rattle.fo_files_record.specs.Takes
