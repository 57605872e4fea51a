use Rattle.std.proofs.Common.{refl, arith}
use Rattle.fo_devices.proofs.Frames.{looks}
use Rattle.fo_devices.proofs.Staying.{blamed}
use Rattle.fo_settling.specs.of_mind.MindParts.{parts}
use Rattle.fo_settling.specs.of_mind.Parts.{state_of}
use Rattle.fo_devices.proofs.calls.DevicesBlocks.pin.Goals as goal

pub returns-clause-looks : goal.returns-clause-looks
returns-clause-looks g c =
    let old = c.args.self.now.cache in
    let new = c.pin.new.self in
    let s = state_of (parts old.mind (g.D.Disk.state old.main).holds (g.D.Disk.faults old.main)) in
    let t = state_of (parts new.mind (g.D.Disk.state new.main).holds (g.D.Disk.faults new.main)) in
    let f = g.A.Disk.faults c.args.self.now.arena.device in
    looks s t f f c.pin.ensures.looks

pub returns-clause-cause : goal.returns-clause-cause
returns-clause-cause g c = blamed c.pin.result _ _ _ _ _ (λ x is. (is, λ told. absurd told)) c.pin.ensures.cause

pub returns-clause-keeps : goal.returns-clause-keeps
returns-clause-keeps g c = record { parts = c.pin.ensures.keeps; same_size = c.pin.ensures.size; same_shelf = refl; same_stored = refl; more_faults = omega arith }
