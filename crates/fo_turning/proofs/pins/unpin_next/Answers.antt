use Rattle.std.proofs.Common.{◌<◌, ◌≤◌, [], sym, ap, ◌∙◌, subst}
use Rattle.fo_mind.specs.MindParts.{parts}
use Rattle.fo_mind.specs.Parts.{IsPinned, Parts, count_of}
use Rattle.fo_turning.specs.Freed.{Loosens}
use Rattle.fo_turning.proofs.Freeing.{fewer_next, loosens_next, loosens_same, pinned_block}
use Rattle.fo_turning.proofs.pins.unpin_next.Goals as goal

pub returns-in_default-clause-none : goal.returns-in_default-clause-none
returns-in_default-clause-none g c = λ _ b pinned. c.in_default.ensures.unpinned.1 b (subst (λ (z : Parts). IsPinned z.held b) c.in_default.ensures.unpinned.0 pinned)

pub returns-in_default-clause-loosens : goal.returns-in_default-clause-loosens
returns-in_default-clause-loosens g c =
    let cache = c.args.cache.now in
    let new = c.unpin.new.self in
    loosens_same (parts cache.mind (g.D.Disk.state cache.main).holds (g.D.Disk.faults cache.main)) (parts new.mind (g.D.Disk.state new.main).holds (g.D.Disk.faults new.main))
    (ap (λ (m : _). parts new.mind (g.D.Disk.state m).holds (g.D.Disk.faults m)) c.unpin.ensures.device
    ∙ ap (λ (z : Parts). record z { disk = (g.D.Disk.state cache.main).holds; faults = g.D.Disk.faults cache.main }) c.in_default.ensures.unpinned.0)

pub release-requires : goal.release-requires
release-requires g c =
    let cache = c.args.cache.now in
    let u = c.in-Some.ensures.unpinned in
    let is = pinned_block (parts cache.mind [] 0) c.in-Some.at cache.mind.placed cache.mind.holding u.pinned in
    let region = ap (λ (z : Parts). z.region) u.rest in
    record { block = (subst (λ r. r.first ≤ c.in-Some.at) (sym region) is.0, subst (λ r. c.in-Some.at < count_of r) (sym region) is.1) }

pub returns-clause-loosens : goal.returns-clause-loosens
returns-clause-loosens g c =
    let cache = c.args.cache.now in
    let mid = c.unpin.new.self in
    let new = c.release.new.self in
    let e = c.release.ensures in
    subst (λ (m : _). Loosens (parts cache.mind (g.D.Disk.state cache.main).holds (g.D.Disk.faults cache.main)) (parts new.mind (g.D.Disk.state m).holds (g.D.Disk.faults m))) (sym (e.device ∙ c.unpin.ensures.device))
    (loosens_next (g.D.Disk.state cache.main).holds (g.D.Disk.faults cache.main) (parts cache.mind [] 0) (parts mid.mind [] 0) (parts new.mind [] 0) c.in-Some.at c.in-Some.ensures.unpinned e.gone e.kept
    cache.mind.turning cache.mind.standing cache.mind.placed.is_first mid.mind.turning mid.mind.standing mid.mind.placed.is_first)

pub returns-clause-less : goal.returns-clause-less
returns-clause-less g c = λ _.
    let cache = c.args.cache.now in
    let mid = c.unpin.new.self in
    let new = c.release.new.self in
    let e = c.release.ensures in
    let u = c.in-Some.ensures.unpinned in
    fewer_next [] 0 (parts cache.mind [] 0) (parts mid.mind [] 0) (parts new.mind [] 0) c.in-Some.at u e.gone e.kept
    cache.mind.turning cache.mind.standing cache.mind.placed.is_first mid.mind.turning mid.mind.standing mid.mind.placed.is_first
    (count_of (parts cache.mind [] 0).region) (pinned_block (parts cache.mind [] 0) c.in-Some.at cache.mind.placed cache.mind.holding u.pinned).1
