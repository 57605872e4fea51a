use Rattle.std.proofs.Common.{◌≡◌, ◌+◌, ◌≤◌, length, refl, ap, subst, arith}
use Rattle.fo_devices.proofs.Lengths.{long_pinned}
use Rattle.fo_ports.specs.State.{none}
use Rattle.fo_devices.proofs.Frames.{calm, no_wait}
use Rattle.fo_settling.specs.of_mind.MindParts.{parts}
use Rattle.fo_settling.specs.of_mind.Parts.{state_of}
use Rattle.fo_devices.proofs.calls.DevicesBlocks.put_bytes.Goals as goal

pub returns-clause-images : goal.returns-clause-images
returns-clause-images g c = record { each = λ image h. absurd h }

pub returns-clause-calm : goal.returns-clause-calm
returns-clause-calm g c =
    let old = c.args.self.now.cache in
    let new = c.put_bytes.new.self in
    let s = state_of (parts old.mind (g.D.Disk.state old.main).holds (g.D.Disk.faults old.main)) in
    let t = state_of (parts new.mind (g.D.Disk.state new.main).holds (g.D.Disk.faults new.main)) in
    let f = g.A.Disk.faults c.args.self.now.arena.device in
    calm s t f f (λ b. b ≡ c.args.at) 0 c.put_bytes.ensures.calm

pub returns-clause-no_wait : goal.returns-clause-no_wait
returns-clause-no_wait g c =
    let old = c.args.self.now.cache in
    let new = c.put_bytes.new.self in
    let s = state_of (parts old.mind (g.D.Disk.state old.main).holds (g.D.Disk.faults old.main)) in
    let t = state_of (parts new.mind (g.D.Disk.state new.main).holds (g.D.Disk.faults new.main)) in
    let f = g.A.Disk.faults c.args.self.now.arena.device in
    no_wait s t f f none c.put_bytes.ensures.no_wait

pub returns-clause-keeps : goal.returns-clause-keeps
returns-clause-keeps g c = record { parts = c.put_bytes.ensures.keeps; same_size = ap g.D.Disk.size c.put_bytes.ensures.device; same_shelf = refl; same_stored = refl; more_faults = omega arith }

pub put_bytes-requires-clause-within : goal.put_bytes-requires-clause-within
put_bytes-requires-clause-within g c =
    let old = c.args.self.now.cache in
    subst (λ n. c.args.from + length c.args.bytes.now ≤ n) (long_pinned old.mind (g.D.Disk.state old.main).holds (g.D.Disk.faults old.main) c.args.at c.requires.pinned) c.requires.within
