pub use Rattle.fo_dir_put.specs.of_shown.Shown
