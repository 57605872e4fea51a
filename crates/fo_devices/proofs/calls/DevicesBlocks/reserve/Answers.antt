use Rattle.std.proofs.Common.{refl, arith}
use Rattle.fo_devices.proofs.Frames.{caused, full_more, rests}
use Rattle.fo_base.specs.Cause.{Rose}
use Rattle.fo_order.specs.Turns.{IsQuiet}
use Rattle.fo_ports.specs.Causes.{IsFull}
use Rattle.fo_reserving.specs.of_closing.Rest.{AtRest}
use Rattle.fo_settling.specs.of_mind.MindParts.{parts}
use Rattle.fo_settling.specs.of_mind.Parts.{state_of}
use Rattle.fo_devices.proofs.calls.DevicesBlocks.reserve.Goals as goal

pub returns-clause-rests : goal.returns-clause-rests
returns-clause-rests g c =
    let old = c.args.self.now.cache in
    let new = c.reserve.new.cache in
    let s = state_of (parts old.mind (g.D.Disk.state old.main).holds (g.D.Disk.faults old.main)) in
    let t = state_of (parts new.mind (g.D.Disk.state new.main).holds (g.D.Disk.faults new.main)) in
    let f = g.A.Disk.faults c.args.self.now.arena.device in
    rests s t f f c.reserve.ensures.rests

pub returns-clause-cause : goal.returns-clause-cause
returns-clause-cause g c =
    let old = c.args.self.now.cache in
    let new = c.reserve.new.cache in
    let s = state_of (parts old.mind (g.D.Disk.state old.main).holds (g.D.Disk.faults old.main)) in
    let t = state_of (parts new.mind (g.D.Disk.state new.main).holds (g.D.Disk.faults new.main)) in
    let f = g.A.Disk.faults c.args.self.now.arena.device in
    caused c.reserve.result t f c.args.blocks (IsQuiet (parts c.reserve.new.cache.mind (g.D.Disk.state c.reserve.new.cache.main).holds (g.D.Disk.faults c.reserve.new.cache.main)).turns) (AtRest (parts c.reserve.new.cache.mind (g.D.Disk.state c.reserve.new.cache.main).holds (g.D.Disk.faults c.reserve.new.cache.main))) (λ x. ⊥) (Rose (g.D.Disk.faults c.args.self.now.cache.main) (g.D.Disk.faults c.reserve.new.cache.main)) ⊥ c.reserve.ensures.cause

pub returns-clause-keeps : goal.returns-clause-keeps
returns-clause-keeps g c = record { parts = c.reserve.ensures.keeps; same_size = c.reserve.ensures.size; same_shelf = refl; same_stored = refl; more_faults = omega arith }

pub returns-clause-full : goal.returns-clause-full
returns-clause-full g c = full_more c.reserve.result (IsFull (state_of (parts c.reserve.new.cache.mind (g.D.Disk.state c.reserve.new.cache.main).holds (g.D.Disk.faults c.reserve.new.cache.main))) c.args.blocks) (IsQuiet (parts c.reserve.new.cache.mind (g.D.Disk.state c.reserve.new.cache.main).holds (g.D.Disk.faults c.reserve.new.cache.main)).turns) (AtRest (parts c.reserve.new.cache.mind (g.D.Disk.state c.reserve.new.cache.main).holds (g.D.Disk.faults c.reserve.new.cache.main))) (λ x. ⊥) (Rose (g.D.Disk.faults c.args.self.now.cache.main) (g.D.Disk.faults c.reserve.new.cache.main)) ⊥ c.reserve.ensures.cause

pub returns-clause-few : goal.returns-clause-few
returns-clause-few g c = c.reserve.ensures.few
