use Rattle.std.specs.Prelude.{◌⊎◌}
use Rattle.fo_image.specs.declared.types.Pointer.TheVariants.{Local}
use Rattle.fo_crash.specs.Images.{target}
use Rattle.fo_ports.specs.Blocks.{cost}
use Rattle.std.proofs.Common.{◌≡◌, refl, ap, inl, arith}
use Rattle.fo_ports.specs.State.{none}
use Rattle.fo_devices.proofs.Frames.{frame, hangs, no_wait, order, removals}
use Rattle.fo_settling.specs.of_mind.MindParts.{parts}
use Rattle.fo_settling.specs.of_mind.Parts.{state_of}
use Rattle.fo_devices.proofs.calls.DevicesBlocks.put_slot.Goals as goal

pub returns-clause-images : goal.returns-clause-images
returns-clause-images g c = record { each = λ image h. absurd h }

pub returns-clause-frame : goal.returns-clause-frame
returns-clause-frame g c =
    let old = c.args.self.now.cache in
    let new = c.put_slot.new.self in
    let s = state_of (parts old.mind (g.D.Disk.state old.main).holds (g.D.Disk.faults old.main)) in
    let t = state_of (parts new.mind (g.D.Disk.state new.main).holds (g.D.Disk.faults new.main)) in
    let f = g.A.Disk.faults c.args.self.now.arena.device in
    frame s t f f (λ b. b ≡ c.args.at) (λ b. (b ≡ c.args.at) ⊎ (target c.args.slot ≡ Local b)) (cost ((s.now c.args.at).slot c.args.i) c.args.slot) c.put_slot.ensures.frame

pub returns-clause-hangs : goal.returns-clause-hangs
returns-clause-hangs g c =
    let old = c.args.self.now.cache in
    let new = c.put_slot.new.self in
    let s = state_of (parts old.mind (g.D.Disk.state old.main).holds (g.D.Disk.faults old.main)) in
    let t = state_of (parts new.mind (g.D.Disk.state new.main).holds (g.D.Disk.faults new.main)) in
    let f = g.A.Disk.faults c.args.self.now.arena.device in
    hangs s t f f c.args.at c.args.i c.args.slot c.put_slot.ensures.hangs

pub returns-clause-order : goal.returns-clause-order
returns-clause-order g c =
    let old = c.args.self.now.cache in
    let new = c.put_slot.new.self in
    let s = state_of (parts old.mind (g.D.Disk.state old.main).holds (g.D.Disk.faults old.main)) in
    let t = state_of (parts new.mind (g.D.Disk.state new.main).holds (g.D.Disk.faults new.main)) in
    let f = g.A.Disk.faults c.args.self.now.arena.device in
    order s t f f none c.put_slot.ensures.order

pub returns-clause-no_wait : goal.returns-clause-no_wait
returns-clause-no_wait g c =
    let old = c.args.self.now.cache in
    let new = c.put_slot.new.self in
    let s = state_of (parts old.mind (g.D.Disk.state old.main).holds (g.D.Disk.faults old.main)) in
    let t = state_of (parts new.mind (g.D.Disk.state new.main).holds (g.D.Disk.faults new.main)) in
    let f = g.A.Disk.faults c.args.self.now.arena.device in
    no_wait s t f f none c.put_slot.ensures.no_wait

pub returns-clause-queues : goal.returns-clause-queues
returns-clause-queues g c = (c.put_slot.ensures.queues.more, λ e. inl (c.put_slot.ensures.queues.some e))

pub returns-clause-covers : goal.returns-clause-covers
returns-clause-covers g c = λ told. absurd told

pub returns-clause-removals : goal.returns-clause-removals
returns-clause-removals g c =
    let old = c.args.self.now.cache in
    let new = c.put_slot.new.self in
    let s = state_of (parts old.mind (g.D.Disk.state old.main).holds (g.D.Disk.faults old.main)) in
    let t = state_of (parts new.mind (g.D.Disk.state new.main).holds (g.D.Disk.faults new.main)) in
    let f = g.A.Disk.faults c.args.self.now.arena.device in
    removals s t f f ((s.now c.args.at).slot c.args.i) c.put_slot.ensures.removals

pub returns-clause-keeps : goal.returns-clause-keeps
returns-clause-keeps g c = record { parts = c.put_slot.ensures.keeps; same_size = ap g.D.Disk.size c.put_slot.ensures.device; same_shelf = refl; same_stored = refl; more_faults = omega arith }
