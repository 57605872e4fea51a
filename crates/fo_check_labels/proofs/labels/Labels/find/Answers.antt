use Rattle.std.proofs.Common.{◌≡◌, ℕ, Bool, true, false, ltb, List, ap, ◌∙◌, sym, subst, rules, arith}
use Rattle.std.specs.List.Sorted.{IsPartitionedBy, IsPartitionPoint}
use Rattle.std.proofs.lemmas.List.{get_or_default}
use Rattle.std.proofs.lemmas.List.Sorted.{IsPartitionPoint-from_clause, IsPartitionedBy-ltb}
use Rattle.fo_check_labels.specs.declared.labels.Known.{Known}
use Rattle.fo_check_labels.proofs.Marking.{rising, none_there}
use Rattle.fo_check_labels.proofs.labels.Labels.find.Goals as goal

abbrev less : ℕ → Known → Bool
less address k = ltb k.address address

pub returns-then-at-len : goal.returns-then-at-len
returns-then-at-len c =
    let known = c.args.self.now.known.items in
    let parted = IsPartitionedBy-ltb (λ (k : Known). k.address) known c.args.address (rising known c.args.self.now.ascending) in
    let point = IsPartitionPoint-from_clause (less c.args.address) _ _ c.partition_point-at.ensures.partitioned (subst (IsPartitionedBy (less c.args.address)) (sym c.deref.ensures.value) parted) (λ a r q k. search rules) in
    none_there known c.args.address c.partition_point-at.result c.args.self.now.ascending
    (subst (λ (xs : List Known). IsPartitionPoint (λ k. less c.args.address k ≡ true) (λ k. less c.args.address k ≡ false) xs c.partition_point-at.result) c.deref.ensures.value point)
    (λ lt d same. absurd (omega (arith, c.if-at-len.true, c.len.ensures)))

pub returns-else-index-address : goal.returns-else-index-address
returns-else-index-address c =
    let known = c.args.self.now.known.items in
    let parted = IsPartitionedBy-ltb (λ (k : Known). k.address) known c.args.address (rising known c.args.self.now.ascending) in
    let point = IsPartitionPoint-from_clause (less c.args.address) _ _ c.partition_point-at.ensures.partitioned (subst (IsPartitionedBy (less c.args.address)) (sym c.deref.ensures.value) parted) (λ a r q k. search rules) in
    none_there known c.args.address c.partition_point-at.result c.args.self.now.ascending
    (subst (λ (xs : List Known). IsPartitionPoint (λ k. less c.args.address k ≡ true) (λ k. less c.args.address k ≡ false) xs c.partition_point-at.result) c.deref.ensures.value point)
    (λ lt d same. let no = c.if-index-address.false in let at = c.index.ensures in no (ap (λ (k : Known). k.address) (at ∙ get_or_default known c.partition_point-at.result _ d lt) ∙ same))
