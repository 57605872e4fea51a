pub use Rattle.fo_dir_put.specs.Paired
pub use Rattle.fo_dir_put.specs.Puts
