pub use Rattle.fo_dir_put.specs.Differ
pub use Rattle.fo_dir_put.specs.Names
pub use Rattle.fo_dir_put.specs.Once
pub use Rattle.fo_dir_put.specs.Paired
pub use Rattle.fo_dir_put.specs.Puts
