pub use Rattle.fo_dir_add.specs.Adds
