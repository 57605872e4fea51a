use Rattle.std.specs.Prelude.{◌^◌, ◌-◌}
use Rattle.fo_image.specs.declared.types.State.TheVariants.{Live}
use Rattle.std.proofs.Common.{refl, ap, arith}
use Rattle.fo_devices.proofs.Frames.{gives}
use Rattle.fo_settling.specs.of_mind.MindParts.{parts}
use Rattle.fo_settling.specs.of_mind.Parts.{state_of}
use Rattle.fo_devices.proofs.calls.DevicesBlocks.copy.Goals as goal

pub returns-clause-gives : goal.returns-clause-gives
returns-clause-gives g c =
    let old = c.args.self.now.cache in
    let new = c.copy.new.self in
    let s = state_of (parts old.mind (g.D.Disk.state old.main).holds (g.D.Disk.faults old.main)) in
    let t = state_of (parts new.mind (g.D.Disk.state new.main).holds (g.D.Disk.faults new.main)) in
    let f = g.A.Disk.faults c.args.self.now.arena.device in
    gives s t f f c.copy.result (s.now c.args.at) (record (s.label c.args.at) { state = Live; epoch = s.high; closing = 2 ^ 32 - 1 }) c.copy.ensures.gives

pub returns-clause-place : goal.returns-clause-place
returns-clause-place g c = λ told. absurd told

pub returns-clause-keeps : goal.returns-clause-keeps
returns-clause-keeps g c = record { parts = c.copy.ensures.keeps; same_size = ap g.D.Disk.size c.copy.ensures.device; same_shelf = refl; same_stored = refl; more_faults = omega arith }
