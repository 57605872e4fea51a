use Rattle.std.proofs.Common.{[], refl, ap, ◌∙◌, subst}
use Rattle.fo_disk.specs.Disk.{DiskState}
use Rattle.std.specs.Result.{IfOk}
use Rattle.fo_mind.specs.MindParts.{parts}
use Rattle.fo_mind.specs.Parts.{Parts}
use Rattle.fo_turning.specs.Unlinks.{Closes}
use Rattle.fo_turning.proofs.Flushing.{on_err}
use Rattle.fo_turning.proofs.Unlinking.{not_empty, not_waits, region_reading, removals_reading, rest_of, unlinks_of}
use Rattle.fo_turning.proofs.Yielding.{yields_on}
use Rattle.fo_turning.proofs.unlink.unlink_idle.Goals as goal

pub close_turn-requires : goal.close_turn-requires
close_turn-requires g c = record { rest = rest_of (parts c.args.cache.now.mind [] 0) (parts c.unpin_all.new.cache.mind [] 0) c.requires.idle (ap (λ (z : Parts). record z { disk = []; faults = 0 }) c.unpin_all.ensures.loosens.rest) c.unpin_all.ensures.none }

pub returns-clause-unlinks : goal.returns-clause-unlinks
returns-clause-unlinks g c =
    let cache = c.args.cache.now in
    let mid = c.unpin_all.new.cache in
    let new = c.close_turn.new.cache in
    let p = parts cache.mind (g.D.Disk.state cache.main).holds (g.D.Disk.faults cache.main) in
    let m = parts mid.mind (g.D.Disk.state mid.main).holds (g.D.Disk.faults mid.main) in
    let q = parts new.mind (g.D.Disk.state new.main).holds (g.D.Disk.faults new.main) in
    unlinks_of (g.D.Disk.state cache.main).holds p m q mid.mind.queue new.mind.queue c.close_turn.result mid.mind.placed (record { quiet = c.requires.idle.quiet; certain = c.requires.idle.certain; none = c.requires.idle.none }) c.requires.some c.unpin_all.ensures.loosens c.unpin_all.ensures.none refl
    (subst (λ (s : DiskState). IfOk c.close_turn.result (λ a. Closes s.holds a m q mid.mind.queue new.mind.queue)) (ap g.D.Disk.state c.unpin_all.ensures.device) c.close_turn.ensures.closes)

pub returns-clause-more : goal.returns-clause-more
returns-clause-more g c =
    let cache = c.args.cache.now in
    let mid = c.unpin_all.new.cache in
    let new = c.close_turn.new.cache in
    let p = parts cache.mind (g.D.Disk.state cache.main).holds (g.D.Disk.faults cache.main) in
    let m = parts mid.mind (g.D.Disk.state mid.main).holds (g.D.Disk.faults mid.main) in
    let q = parts new.mind (g.D.Disk.state new.main).holds (g.D.Disk.faults new.main) in
    let same = ap (λ (z : Parts). z.removals) c.unpin_all.ensures.loosens.rest in (
      not_empty (g.D.Disk.state mid.main).holds p m q mid.mind.queue new.mind.queue c.close_turn.result c.requires.some same refl c.close_turn.ensures.closes,
      not_waits (g.D.Disk.state mid.main).holds m q mid.mind.queue new.mind.queue c.close_turn.result c.close_turn.ensures.closes,
    )

pub returns-clause-yields : goal.returns-clause-yields
returns-clause-yields g c = yields_on c.unpin_all.ensures.loosens.yields c.close_turn.ensures.yields

pub returns-clause-labels : goal.returns-clause-labels
returns-clause-labels g c = on_err c.close_turn.result (λ r. region_reading r ∙ ap (λ (z : Parts). z.region) c.unpin_all.ensures.loosens.rest) c.close_turn.ensures.refused

pub returns-clause-removals : goal.returns-clause-removals
returns-clause-removals g c = on_err c.close_turn.result (λ r. removals_reading r ∙ ap (λ (z : Parts). z.removals) c.unpin_all.ensures.loosens.rest) c.close_turn.ensures.refused
