use Rattle.fo_image.specs.Usable.{live_label}
use Rattle.fo_ports.specs.Blocks.{blank}
use Rattle.std.proofs.Common.{refl, ap, arith}
use Rattle.fo_devices.proofs.Frames.{gives}
use Rattle.fo_settling.specs.of_mind.MindParts.{parts}
use Rattle.fo_settling.specs.of_mind.Parts.{state_of}
use Rattle.fo_devices.proofs.calls.DevicesBlocks.new_block.Goals as goal

pub returns-clause-gives : goal.returns-clause-gives
returns-clause-gives g c =
    let old = c.args.self.now.cache in
    let new = c.new_block.new.self in
    let s = state_of (parts old.mind (g.D.Disk.state old.main).holds (g.D.Disk.faults old.main)) in
    let t = state_of (parts new.mind (g.D.Disk.state new.main).holds (g.D.Disk.faults new.main)) in
    let f = g.A.Disk.faults c.args.self.now.arena.device in
    gives s t f f c.new_block.result (blank c.args.kind) (live_label c.args.kind c.args.tag old.mind.one.high) c.new_block.ensures.gives

pub returns-clause-place : goal.returns-clause-place
returns-clause-place g c = λ told. absurd told

pub returns-clause-keeps : goal.returns-clause-keeps
returns-clause-keeps g c = record { parts = c.new_block.ensures.keeps; same_size = ap g.D.Disk.size c.new_block.ensures.device; same_shelf = refl; same_stored = refl; more_faults = omega arith }
