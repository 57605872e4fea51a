use Rattle.std.proofs.Common.{refl, arith}
use Rattle.fo_devices.proofs.Frames.{renumbers}
use Rattle.fo_settling.specs.of_mind.MindParts.{parts}
use Rattle.fo_settling.specs.of_mind.Parts.{state_of}
use Rattle.fo_devices.proofs.calls.DevicesBlocks.number.Goals as goal

pub returns-clause-images : goal.returns-clause-images
returns-clause-images g c = record { each = λ image h. absurd h }

pub returns-clause-passes : goal.returns-clause-passes
returns-clause-passes g c = record { later = omega arith; before = λ k image le h. h; within = λ k image a b h. absurd h }

pub returns-clause-stays : goal.returns-clause-stays
returns-clause-stays g c =
    let old = c.args.self.now.cache in
    let new = c.number.new.self in
    let s = state_of (parts old.mind (g.D.Disk.state old.main).holds (g.D.Disk.faults old.main)) in
    let t = state_of (parts new.mind (g.D.Disk.state new.main).holds (g.D.Disk.faults new.main)) in
    let f = g.A.Disk.faults c.args.self.now.arena.device in
    renumbers s t f f c.number.ensures.stays

pub returns-clause-keeps : goal.returns-clause-keeps
returns-clause-keeps g c = record { parts = c.number.ensures.keeps; same_size = c.number.ensures.size; same_shelf = refl; same_stored = refl; more_faults = omega arith }
