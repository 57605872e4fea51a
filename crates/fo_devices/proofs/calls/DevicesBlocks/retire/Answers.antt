use Rattle.std.proofs.Common.{refl, ap, arith}
use Rattle.fo_ports.specs.State.{none}
use Rattle.fo_devices.proofs.Frames.{frame, no_wait, order}
use Rattle.fo_settling.specs.of_mind.MindParts.{parts}
use Rattle.fo_settling.specs.of_mind.Parts.{state_of}
use Rattle.fo_devices.proofs.calls.DevicesBlocks.retire.Goals as goal

pub returns-clause-images : goal.returns-clause-images
returns-clause-images g c = record { each = λ image h. absurd h }

pub returns-clause-frame : goal.returns-clause-frame
returns-clause-frame g c =
    let old = c.args.self.now.cache in
    let new = c.retire.new.self in
    let s = state_of (parts old.mind (g.D.Disk.state old.main).holds (g.D.Disk.faults old.main)) in
    let t = state_of (parts new.mind (g.D.Disk.state new.main).holds (g.D.Disk.faults new.main)) in
    let f = g.A.Disk.faults c.args.self.now.arena.device in
    frame s t f f none none 1 c.retire.ensures.frame

pub returns-clause-order : goal.returns-clause-order
returns-clause-order g c =
    let old = c.args.self.now.cache in
    let new = c.retire.new.self in
    let s = state_of (parts old.mind (g.D.Disk.state old.main).holds (g.D.Disk.faults old.main)) in
    let t = state_of (parts new.mind (g.D.Disk.state new.main).holds (g.D.Disk.faults new.main)) in
    let f = g.A.Disk.faults c.args.self.now.arena.device in
    order s t f f none c.retire.ensures.order

pub returns-clause-no_wait : goal.returns-clause-no_wait
returns-clause-no_wait g c =
    let old = c.args.self.now.cache in
    let new = c.retire.new.self in
    let s = state_of (parts old.mind (g.D.Disk.state old.main).holds (g.D.Disk.faults old.main)) in
    let t = state_of (parts new.mind (g.D.Disk.state new.main).holds (g.D.Disk.faults new.main)) in
    let f = g.A.Disk.faults c.args.self.now.arena.device in
    no_wait s t f f none c.retire.ensures.no_wait

pub returns-clause-covers : goal.returns-clause-covers
returns-clause-covers g c = (λ told. absurd told, λ b. (λ h. h, λ h. absurd h))

pub returns-clause-keeps : goal.returns-clause-keeps
returns-clause-keeps g c = record { parts = c.retire.ensures.keeps; same_size = ap g.D.Disk.size c.retire.ensures.device; same_shelf = refl; same_stored = refl; more_faults = omega arith }
