use Rattle.fo_crash.specs.Steps.{cleared}
use Rattle.std.proofs.Common.{◌≡◌, refl, ap, inl, inr, ⊎_elim, arith}
use Rattle.fo_ports.specs.State.{none}
use Rattle.fo_devices.proofs.Frames.{frame, hangs, no_wait, removals}
use Rattle.fo_devices.proofs.Staying.{in_each}
use Rattle.fo_settling.specs.of_mind.MindParts.{parts}
use Rattle.fo_settling.specs.of_mind.Parts.{state_of}
use Rattle.fo_devices.proofs.calls.DevicesBlocks.remove_slot.Goals as goal

pub returns-clause-now : goal.returns-clause-now
returns-clause-now g c = ⊎_elim (λ h. inl (h.0, h.1, in_each c.args.after _ _ (λ image no. no))) (λ h. inr h) c.remove_slot.ensures.now

pub returns-clause-images : goal.returns-clause-images
returns-clause-images g c = record { each = λ image h. absurd h }

pub returns-clause-frame : goal.returns-clause-frame
returns-clause-frame g c =
    let old = c.args.self.now.cache in
    let new = c.remove_slot.new.self in
    let s = state_of (parts old.mind (g.D.Disk.state old.main).holds (g.D.Disk.faults old.main)) in
    let t = state_of (parts new.mind (g.D.Disk.state new.main).holds (g.D.Disk.faults new.main)) in
    let f = g.A.Disk.faults c.args.self.now.arena.device in
    frame s t f f (λ b. b ≡ c.args.at) (λ b. b ≡ c.args.at) 1 c.remove_slot.ensures.frame

pub returns-clause-hangs : goal.returns-clause-hangs
returns-clause-hangs g c =
    let old = c.args.self.now.cache in
    let new = c.remove_slot.new.self in
    let s = state_of (parts old.mind (g.D.Disk.state old.main).holds (g.D.Disk.faults old.main)) in
    let t = state_of (parts new.mind (g.D.Disk.state new.main).holds (g.D.Disk.faults new.main)) in
    let f = g.A.Disk.faults c.args.self.now.arena.device in
    hangs s t f f c.args.at c.args.i (cleared ((s.now c.args.at).slot c.args.i)) c.remove_slot.ensures.hangs

pub returns-clause-no_wait : goal.returns-clause-no_wait
returns-clause-no_wait g c =
    let old = c.args.self.now.cache in
    let new = c.remove_slot.new.self in
    let s = state_of (parts old.mind (g.D.Disk.state old.main).holds (g.D.Disk.faults old.main)) in
    let t = state_of (parts new.mind (g.D.Disk.state new.main).holds (g.D.Disk.faults new.main)) in
    let f = g.A.Disk.faults c.args.self.now.arena.device in
    no_wait s t f f none c.remove_slot.ensures.no_wait

pub returns-clause-covers : goal.returns-clause-covers
returns-clause-covers g c = λ told. absurd told

pub returns-clause-removals : goal.returns-clause-removals
returns-clause-removals g c =
    let old = c.args.self.now.cache in
    let new = c.remove_slot.new.self in
    let s = state_of (parts old.mind (g.D.Disk.state old.main).holds (g.D.Disk.faults old.main)) in
    let t = state_of (parts new.mind (g.D.Disk.state new.main).holds (g.D.Disk.faults new.main)) in
    let f = g.A.Disk.faults c.args.self.now.arena.device in
    removals s t f f ((s.now c.args.at).slot c.args.i) c.remove_slot.ensures.removals

pub returns-clause-keeps : goal.returns-clause-keeps
returns-clause-keeps g c = record { parts = c.remove_slot.ensures.keeps; same_size = ap g.D.Disk.size c.remove_slot.ensures.device; same_shelf = refl; same_stored = refl; more_faults = omega arith }

pub returns-clause-later : goal.returns-clause-later
returns-clause-later g c = c.remove_slot.ensures.later
