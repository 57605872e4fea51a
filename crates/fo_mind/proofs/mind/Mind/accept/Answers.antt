use Rattle.std.proofs.Common.{◌≡◌, Some, false, sym, ap, ◌∙◌, subst, arith}
use Rattle.fo_image.specs.Usable.{is_usable}
use Rattle.fo_mind.specs.Parts.{label_at, least_limit}
use Rattle.fo_mind.proofs.Limits.{tried_limit}
use Rattle.fo_mind.proofs.mind.Mind.accept.Goals as goal

pub invariant_of-self-2-clause-numbered : goal.invariant_of-self-2-clause-numbered
invariant_of-self-2-clause-numbered c =
    let self = c.args.self.now in
    let is : self.doubt ≡ Some c.in-Some.block = sym c.take.ensures.value ∙ c.in-Some.is in
    let top = tried_limit self.one c.args.one self.doubt c.in-Some.block is (c.requires.spelled c.in-Some.block is) in
    let low = self.numbered in
    let now = ap (least_limit c.args.one) c.take.ensures.after in
    omega (arith, top, low, now)

pub invariant_of-self-2-clause-granting : goal.invariant_of-self-2-clause-granting
invariant_of-self-2-clause-granting c = λ granted.
    let self = c.args.self.now in
    let is : self.doubt ≡ Some c.in-Some.block = sym c.take.ensures.value ∙ c.in-Some.is in
    let top = tried_limit self.one c.args.one self.doubt c.in-Some.block is (c.requires.spelled c.in-Some.block is) in
    let low = self.granting granted in
    let now = ap (least_limit c.args.one) c.take.ensures.after in
    omega (arith, top, low, now)

pub invariant_of-self-2-clause-root_in : goal.invariant_of-self-2-clause-root_in
invariant_of-self-2-clause-root_in c =
    let self = c.args.self.now in
    record { linked = c.requires.linked; kept = subst (λ n. is_usable n (label_at self.labels c.args.one.active) ≡ false) (sym c.requires.low) c.requires.live }
