use Rattle.std.proofs.Common.{◌≡◌, ◌+◌, ℕ, List, [], ◌∷◌, ◌++◌, length, sym, ap, subst, ◌∙◌, arith}
use Rattle.std.proofs.lemmas.Bool.{eqb-false}
use Rattle.std.proofs.lemmas.List.{length-append}
use Rattle.fo_image.specs.declared.record.Record.{Record}
use Rattle.fo_rules.specs.Leaf.{IsFront}
use Rattle.fo_rules.proofs.Fronts.{Read, read_none, read_more, one_more, none_left}
use Rattle.fo_rules.proofs.leaf.read_records.Goals as goal

pub records-init : goal.records-init
records-init c = record {
  read = subst (λ (rs : List Record). Read c.args.bytes.now rs c.args.bytes.now) (sym c.new-records.ensures.items) (read_none c.args.bytes.now);
  count_is = ap (λ (rs : List Record). length rs) c.new-records.ensures.items;
}

pub records-preserved : goal.records-preserved
records-preserved c =
    let front : IsFront c.records.rest.now c.in-Some.record c.in-Some.more.now = rw c.in-Some.is at c.in_ok-front.ensures in
    let items : c.push.new.self.items ≡ c.records.records.items ++ c.in-Some.record ∷ [] = c.in_ok-push.ensures.items in
    record {
      read = subst (λ (rs : List Record). Read c.args.bytes.now rs c.in-Some.more.now) (sym items) (read_more c.records.invariant.read front);
      count_is = ap (λ (rs : List Record). length rs) items ∙ length-append c.records.records.items (c.in-Some.record ∷ []) ∙ ap (λ n. n + 1) c.records.invariant.count_is;
    }

pub returns-in_default : goal.returns-in_default
returns-in_default c = λ rs a.
    let none : (r : Record) (more : List ℕ) → IsFront c.records.rest.now r more → ⊥ = rw c.in_default.is at c.in_ok-front.ensures in
    one_more c.records.invariant.read a (omega (arith, c.records.invariant.count_is, c.records-test.true)) none

pub returns-else-is_empty : goal.returns-else-is_empty
returns-else-is_empty c = λ rs a.
    let e : c.records.rest.now ≡ [] = none_left c.records.invariant.read a (omega (arith, c.records.invariant.count_is, c.records-test.false, c.records.auto.counter-end)) in
    let l : length c.records.rest.now ≡ 0 = ap (λ (xs : List ℕ). length xs) e in
    eqb-false (length c.records.rest.now) 0 (sym c.is_empty.ensures ∙ c.if-is_empty.false) l
