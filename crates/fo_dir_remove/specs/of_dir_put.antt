pub use Rattle.fo_dir_change.specs.of_dir_put.Puts
