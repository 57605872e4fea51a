pub use Rattle.fo_disk.specs.Disk
