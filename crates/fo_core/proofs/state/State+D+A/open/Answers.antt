use Rattle.fo_core.proofs.state.State+D+A.open.Goals as goal

pub returns-in-Ok-open_devices-clause-opened : goal.returns-in-Ok-open_devices-clause-opened
returns-in-Ok-open_devices-clause-opened g c =
    rw (c.new-in-Ok-open_devices-2.ensures.on)
    (record { sessions = c.new-in-Ok-open_devices.ensures; begins = c.in-Ok-open_devices.ensures.opened; halted = c.new-in-Ok-open_devices-2.ensures.halted })
