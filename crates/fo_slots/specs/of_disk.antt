pub use Rattle.fo_ports.specs.of_disk.Disk
