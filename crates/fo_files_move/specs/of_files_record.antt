pub use Rattle.fo_files_record.specs.Leaf
pub use Rattle.fo_files_record.specs.Stays
