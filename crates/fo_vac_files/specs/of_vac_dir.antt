pub use Rattle.fo_vac_dir.specs.Dir
