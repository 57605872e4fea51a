use Rattle.std.proofs.Common.{◌≡◌, [], ⊎_elim, ap, ◌∙◌, arith}
use Rattle.fo_closing.specs.of_mind.MindParts.{parts}
use Rattle.fo_closing.specs.of_mind.Parts.{Parts}
use Rattle.fo_reserving.proofs.Calming.{rest_few}
use Rattle.fo_reserving.proofs.Joining.{reserves_on}
use Rattle.fo_reserving.proofs.Rooming.{caused_result}
use Rattle.fo_reserving.proofs.needs.make_more.Goals as goal

pub returns-in_default-make-clause-leaves : goal.returns-in_default-make-clause-leaves
returns-in_default-make-clause-leaves g c = reserves_on c.close_more.ensures.leaves c.make.ensures.leaves

pub returns-then-made-clause-leaves : goal.returns-then-made-clause-leaves
returns-then-made-clause-leaves g c = reserves_on c.close_more.ensures.leaves c.make.ensures.leaves

pub returns-clause-leaves : goal.returns-clause-leaves
returns-clause-leaves g c = reserves_on (reserves_on c.close_more.ensures.leaves c.make.ensures.leaves) c.make_last.ensures.leaves

pub returns-clause-cause : goal.returns-clause-cause
returns-clause-cause g c =
    let a = c.close_more.ensures.later in
    let e = ap (λ m. g.D.Disk.faults m) c.make.ensures.device in
    caused_result _ _ _ _ c.make_last.result (omega (arith, a, e)) c.make_last.ensures.cause

pub returns-then-made-clause-few : goal.returns-then-made-clause-few
returns-then-made-clause-few g c = c.make.ensures.few_stay (rest_few (parts c.close_more.new.cache.mind [] 0) c.in_default.ensures.rest)

pub make_last-requires : goal.make_last-requires
make_last-requires g c =
    let closed = c.in_default.ensures in
    let f = c.in-Ok.ensures.few c.if-made.false in
    let lt = f.0 in
    let none = ⊎_elim (λ le. absurd (omega (arith, le, lt))) (λ (e : (parts c.close_more.new.cache.mind [] 0).removals ≡ []). e) closed.over in
    record { closed = (ap (λ (p : Parts). p.removals) f.1 ∙ none, ap (λ (p : Parts). p.clears) f.1 ∙ closed.rest.none) }
