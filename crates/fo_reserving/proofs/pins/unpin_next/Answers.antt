use Rattle.std.proofs.Common.{[], sym, subst}
use Rattle.fo_closing.specs.of_mind.MindParts.{parts}
use Rattle.fo_closing.specs.of_mind.Parts.{IsPinned, Parts}
use Rattle.fo_reserving.specs.Steps.{IsKept, Lets}
use Rattle.fo_reserving.proofs.Counting.{fewer_pins, unpinned_block}
use Rattle.fo_reserving.proofs.Ending.{kept_next}
use Rattle.fo_reserving.proofs.Letting.{free_unpinned, lets_none, lets_on, lets_released, lets_unpinned}
use Rattle.fo_reserving.proofs.pins.unpin_next.Goals as goal

pub returns-in_default-clause-lets : goal.returns-in_default-clause-lets
returns-in_default-clause-lets g c = let p = parts c.args.cache.now.mind [] 0 in subst (Lets p) (sym c.in_default.ensures.unpinned.0) (lets_none p)

pub returns-in_default-clause-none : goal.returns-in_default-clause-none
returns-in_default-clause-none g c = λ _ b h. c.in_default.ensures.unpinned.1 b (subst (λ (z : Parts). IsPinned z.held b) c.in_default.ensures.unpinned.0 h)

pub release-requires : goal.release-requires
release-requires g c =
    let mind = c.args.cache.now.mind in
    record { block = unpinned_block (parts mind [] 0) (parts c.unpin.new.self.mind [] 0) c.in-Some.at mind.placed mind.holding c.in-Some.ensures.unpinned }

pub returns-clause-lets : goal.returns-clause-lets
returns-clause-lets g c =
    let mind = c.args.cache.now.mind in
    let p = parts mind [] 0 in
    let m = parts c.unpin.new.self.mind [] 0 in
    let q = parts c.release.new.self.mind [] 0 in
    lets_on (lets_unpinned p m c.in-Some.at mind.placed mind.holding c.in-Some.ensures.unpinned) (lets_released m q c.in-Some.at c.release.ensures.gone c.release.ensures.kept)

pub returns-clause-less : goal.returns-clause-less
returns-clause-less g c = λ _.
    let mind = c.args.cache.now.mind in
    let p = parts mind [] 0 in
    let m = parts c.unpin.new.self.mind [] 0 in
    let q = parts c.release.new.self.mind [] 0 in
    let at = c.in-Some.at in
    let u = c.in-Some.ensures.unpinned in
    let rest = lets_released m q at c.release.ensures.gone c.release.ensures.kept in
    fewer_pins p q at mind.placed mind.holding (lets_on (lets_unpinned p m at mind.placed mind.holding u) rest) u.pinned (λ h. free_unpinned p m at u (rest.pinned at h))

pub returns-in_default-clause-kept : goal.returns-in_default-clause-kept
returns-in_default-clause-kept g c = λ b k. subst (λ (z : Parts). IsKept z b) (sym c.in_default.ensures.unpinned.0) k

pub returns-clause-kept : goal.returns-clause-kept
returns-clause-kept g c = kept_next (parts c.args.cache.now.mind [] 0) (parts c.unpin.new.self.mind [] 0) (parts c.release.new.self.mind [] 0) c.in-Some.at c.in-Some.ensures.unpinned c.release.ensures.gone c.release.ensures.kept
