use Rattle.std.proofs.Common.{refl, arith}
use Rattle.fo_devices.proofs.Frames.{known, rests}
use Rattle.fo_settling.proofs.of_mind.Results.{on_ok}
use Rattle.fo_settling.specs.of_mind.MindParts.{parts}
use Rattle.fo_settling.specs.of_mind.Parts.{state_of}
use Rattle.fo_devices.proofs.calls.DevicesBlocks.settle.Goals as goal

pub returns-clause-clean : goal.returns-clause-clean
returns-clause-clean g c = on_ok c.settle.result (λ clean b d. ((clean b d).0, λ told. absurd told)) c.settle.ensures.clean

pub returns-clause-sealed : goal.returns-clause-sealed
returns-clause-sealed g c = on_ok c.settle.result (λ _ told. absurd told) c.settle.ensures.all

pub returns-clause-pinned : goal.returns-clause-pinned
returns-clause-pinned g c = on_ok c.settle.result (λ pinned _. pinned) c.settle.ensures.pinned

pub returns-clause-rests : goal.returns-clause-rests
returns-clause-rests g c =
    let old = c.args.self.now.cache in
    let new = c.settle.new.cache in
    let s = state_of (parts old.mind (g.D.Disk.state old.main).holds (g.D.Disk.faults old.main)) in
    let t = state_of (parts new.mind (g.D.Disk.state new.main).holds (g.D.Disk.faults new.main)) in
    let f = g.A.Disk.faults c.args.self.now.arena.device in
    rests s t f f c.settle.ensures.rests

pub returns-clause-known : goal.returns-clause-known
returns-clause-known g c =
    let old = c.args.self.now.cache in
    let new = c.settle.new.cache in
    let s = state_of (parts old.mind (g.D.Disk.state old.main).holds (g.D.Disk.faults old.main)) in
    let t = state_of (parts new.mind (g.D.Disk.state new.main).holds (g.D.Disk.faults new.main)) in
    let f = g.A.Disk.faults c.args.self.now.arena.device in
    λ b pinned. known s t f f b (c.settle.ensures.known b pinned)

pub returns-clause-keeps : goal.returns-clause-keeps
returns-clause-keeps g c = record { parts = c.settle.ensures.keeps; same_size = c.settle.ensures.size; same_shelf = refl; same_stored = refl; more_faults = omega arith }

pub returns-clause-settles : goal.returns-clause-settles
returns-clause-settles g c = c.settle.ensures.costs
