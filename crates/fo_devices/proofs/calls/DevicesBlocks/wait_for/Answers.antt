use Rattle.std.proofs.Common.{◌≡◌, refl, ap, arith}
use Rattle.fo_ports.specs.State.{none}
use Rattle.fo_devices.proofs.Frames.{calm, no_wait, pairs}
use Rattle.fo_settling.specs.of_mind.MindParts.{parts}
use Rattle.fo_settling.specs.of_mind.Parts.{state_of}
use Rattle.fo_devices.proofs.calls.DevicesBlocks.wait_for.Goals as goal

pub returns-clause-waits : goal.returns-clause-waits
returns-clause-waits g c =
    let old = c.args.self.now.cache in
    let new = c.wait_for.new.self in
    let s = state_of (parts old.mind (g.D.Disk.state old.main).holds (g.D.Disk.faults old.main)) in
    let t = state_of (parts new.mind (g.D.Disk.state new.main).holds (g.D.Disk.faults new.main)) in
    let f = g.A.Disk.faults c.args.self.now.arena.device in
    (pairs s t f f c.args.at c.args.on c.wait_for.ensures.waits, no_wait s t f f (λ a. a ≡ c.args.at) c.wait_for.ensures.no_wait)

pub returns-clause-images : goal.returns-clause-images
returns-clause-images g c = record { each = λ image h. absurd h }

pub returns-clause-calm : goal.returns-clause-calm
returns-clause-calm g c =
    let old = c.args.self.now.cache in
    let new = c.wait_for.new.self in
    let s = state_of (parts old.mind (g.D.Disk.state old.main).holds (g.D.Disk.faults old.main)) in
    let t = state_of (parts new.mind (g.D.Disk.state new.main).holds (g.D.Disk.faults new.main)) in
    let f = g.A.Disk.faults c.args.self.now.arena.device in
    calm s t f f none 1 c.wait_for.ensures.calm

pub returns-clause-keeps : goal.returns-clause-keeps
returns-clause-keeps g c = record { parts = c.wait_for.ensures.keeps; same_size = ap g.D.Disk.size c.wait_for.ensures.device; same_shelf = refl; same_stored = refl; more_faults = omega arith }
