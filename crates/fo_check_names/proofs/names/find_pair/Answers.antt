use Rattle.std.proofs.Common.{◌≡◌, ℕ, ◌<◌, Bool, true, ltb, length, get_or, refl, ap, ◌∙◌, sym, subst, rules, arith}
use Rattle.std.specs.Prelude.{◌↔◌}
use Rattle.std.proofs.lemmas.List.{get_or_default}
use Rattle.std.proofs.lemmas.List.Sorted.{IsPartitionPoint-from_clause, IsPartitionedBy-ltb}
use Rattle.fo_crash.specs.declared.slot.Slot.TheVariants.{Entry as Head}
use Rattle.fo_rules.specs.of_good.Trees.{IsFirst, IsSecond}
use Rattle.fo_check_names.specs.declared.names.Named.{Named}
use Rattle.fo_check_names.specs.Names.{slot_of}
use Rattle.fo_check_names.specs.Finds.Finds.{none, some}
use Rattle.fo_check_names.proofs.Finding.{none_there}
use Rattle.fo_check_names.proofs.names.find_pair.Goals as goal

abbrev less : ℕ → Named → Bool
less slot n = ltb (slot_of n) slot

pub returns-then-at-named : goal.returns-then-at-named
returns-then-at-named c = none refl refl (λ up.
    let parted = IsPartitionedBy-ltb slot_of c.args.named.now c.args.slot up in
    let point = IsPartitionPoint-from_clause (less c.args.slot) _ _ c.partition_point-at.ensures.partitioned parted (λ a r q k. search rules) in
    none_there c.args.named.now c.args.slot c.partition_point-at.result up point (λ lt d same. absurd (omega (arith, lt, c.if-at-named.true))))

pub returns-then-from-slot : goal.returns-then-from-slot
returns-then-from-slot c = none refl refl (λ up.
    let parted = IsPartitionedBy-ltb slot_of c.args.named.now c.args.slot up in
    let point = IsPartitionPoint-from_clause (less c.args.slot) _ _ c.partition_point-at.ensures.partitioned parted (λ a r q k. search rules) in
    none_there c.args.named.now c.args.slot c.partition_point-at.result up point
    (λ lt d same. c.if-from-slot.true (c.from.ensures ∙ ap slot_of (get_or_default c.args.named.now c.partition_point-at.result c.index-named-at.result d lt) ∙ same)))

pub returns : goal.returns
returns c =
    let named = c.args.named.now in
    let at = c.partition_point-at.result in
    let lt : at < length named = omega (arith, c.if-at-named.false, c.partition_point-at.ensures.bound) in
    let n : Named = get_or named at c.index-named-at-3.result in
    let same : get_or named at c.index-named-at-2.result ≡ n = get_or_default named at c.index-named-at-2.result c.index-named-at-3.result lt in
    some at n lt (λ d. get_or_default named at d c.index-named-at-3.result lt)
    (ap slot_of (get_or_default named at c.index-named-at-3.result c.index-named-at.result lt) ∙ sym c.from.ensures ∙ c.if-from-slot.false)
    (subst (λ (x : Named). (c.has_pair-fits.result ≡ true) ↔ (IsFirst (Head c.args.first.now) x.listed × IsSecond (Head c.args.second.now) x.listed)) same c.has_pair-fits.ensures)
    refl
