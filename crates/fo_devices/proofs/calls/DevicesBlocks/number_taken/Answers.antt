use Rattle.std.proofs.Common.{refl, ap, arith}
use Rattle.fo_ports.specs.State.{none}
use Rattle.fo_devices.proofs.Frames.{covered, no_removal, no_wait, order, stays, uses}
use Rattle.fo_settling.specs.of_mind.MindParts.{parts}
use Rattle.fo_settling.specs.of_mind.Parts.{state_of}
use Rattle.fo_devices.proofs.calls.DevicesBlocks.number_taken.Goals as goal

pub returns-clause-images : goal.returns-clause-images
returns-clause-images g c = record { each = λ image h. absurd h }

pub returns-clause-stays : goal.returns-clause-stays
returns-clause-stays g c =
    let old = c.args.self.now.cache in
    let new = c.number_taken.new.self in
    let s = state_of (parts old.mind (g.D.Disk.state old.main).holds (g.D.Disk.faults old.main)) in
    let t = state_of (parts new.mind (g.D.Disk.state new.main).holds (g.D.Disk.faults new.main)) in
    let f = g.A.Disk.faults c.args.self.now.arena.device in
    (stays s t f f none none c.number_taken.ensures.stays, uses s t f f 0 0 c.number_taken.ensures.uses)

pub returns-clause-order : goal.returns-clause-order
returns-clause-order g c =
    let old = c.args.self.now.cache in
    let new = c.number_taken.new.self in
    let s = state_of (parts old.mind (g.D.Disk.state old.main).holds (g.D.Disk.faults old.main)) in
    let t = state_of (parts new.mind (g.D.Disk.state new.main).holds (g.D.Disk.faults new.main)) in
    let f = g.A.Disk.faults c.args.self.now.arena.device in
    (order s t f f none c.number_taken.ensures.order, covered s t f f c.number_taken.ensures.covered)

pub returns-clause-no_wait : goal.returns-clause-no_wait
returns-clause-no_wait g c =
    let old = c.args.self.now.cache in
    let new = c.number_taken.new.self in
    let s = state_of (parts old.mind (g.D.Disk.state old.main).holds (g.D.Disk.faults old.main)) in
    let t = state_of (parts new.mind (g.D.Disk.state new.main).holds (g.D.Disk.faults new.main)) in
    let f = g.A.Disk.faults c.args.self.now.arena.device in
    no_wait s t f f none c.number_taken.ensures.no_wait

pub returns-clause-no_removal : goal.returns-clause-no_removal
returns-clause-no_removal g c =
    let old = c.args.self.now.cache in
    let new = c.number_taken.new.self in
    let s = state_of (parts old.mind (g.D.Disk.state old.main).holds (g.D.Disk.faults old.main)) in
    let t = state_of (parts new.mind (g.D.Disk.state new.main).holds (g.D.Disk.faults new.main)) in
    let f = g.A.Disk.faults c.args.self.now.arena.device in
    no_removal s t f f c.number_taken.ensures.no_removal

pub returns-clause-keeps : goal.returns-clause-keeps
returns-clause-keeps g c = record { parts = c.number_taken.ensures.keeps; same_size = ap g.D.Disk.size c.number_taken.ensures.device; same_shelf = refl; same_stored = refl; more_faults = omega arith }
