use Rattle.fo_devices.proofs.calls.DevicesBlocks.slot.Goals as goal

pub returns : goal.returns
returns g c = let main = c.args.self.now.cache.main in c.slot.ensures (g.D.Disk.state main).holds (g.D.Disk.faults main)
