use Rattle.std.proofs.Common.{◌≡◌, true, false, get_or, length-set, ap, ◌∙◌, sym, refl, arith}
use Rattle.std.proofs.lemmas.List.{get_or_read}
use Rattle.fo_check_labels.specs.declared.labels.Known.{Known}
use Rattle.fo_check_labels.proofs.Marking.{Ascend-marked, unreached-marked, all_reached}
use Rattle.fo_check_labels.proofs.labels.Labels.reach.Goals as goal

pub returns-then-index-clause-marks : goal.returns-then-index-clause-marks
returns-then-index-clause-marks c =
    let known = c.args.self.now.known.items in
    let is : (d : Known) → (get_or known c.in-Some.at d).reached ≡ true = λ d. ap (λ (k : Known). k.reached) (sym (get_or_read known c.in-Some.at c.index.result.now c.in-Some.ensures.within c.index.ensures d)) ∙ c.if-index.true in
    record { none = all_reached known c.args.address c.in-Some.at c.args.self.now.ascending c.in-Some.ensures is; same = refl }

pub invariant_of-self : goal.invariant_of-self
invariant_of-self c =
    let known = c.args.self.now.known.items in
    let k : Known = record { address = c.index_mut.result.now.address; label = c.index_mut.result.now.label; reached = true } in
    let read : (d : Known) → c.index_mut.result.now ≡ get_or known c.in-Some.at d = get_or_read known c.in-Some.at c.index_mut.result.now c.in-Some.ensures.within c.index_mut.ensures.value in
    let same : (d : Known) → k.address ≡ (get_or known c.in-Some.at d).address = λ d. ap (λ (m : Known). m.address) (read d) in
    let isnt : (get_or known c.in-Some.at k).reached ≡ false = ap (λ (m : Known). m.reached) (sym (get_or_read known c.in-Some.at c.index.result.now c.in-Some.ensures.within c.index.ensures k)) ∙ c.if-index.false in
    record {
      ascending = Ascend-marked known c.in-Some.at k c.in-Some.ensures.within same c.args.self.now.ascending;
      counted = omega (arith, unreached-marked known c.in-Some.at k c.in-Some.ensures.within same k isnt refl, c.args.self.now.counted);
      few = omega (arith, length-set known c.in-Some.at k, c.args.self.now.few);
    }
