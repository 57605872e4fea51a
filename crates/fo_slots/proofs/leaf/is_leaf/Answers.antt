use Rattle.std.proofs.Common.{◌+◌, ◌∙◌, eqb, sym, ap, subst, arith}
use Rattle.std.specs.List.{list_all}
use Rattle.std.proofs.lemmas.List.{take_rest}
use Rattle.fo_ports.proofs.of_meta.Leaves.{head_at}
use Rattle.fo_slots.specs.Formed.{RunsTo}
use Rattle.fo_slots.proofs.Leaving.{leaf_made, leaf_zeros}
use Rattle.fo_slots.proofs.leaf.is_leaf.Goals as goal

pub returns-in_default : goal.returns-in_default
returns-in_default c = (
  λ h. absurd (cc),
  λ l.
      let head = head_at c.args.leaf.now l.records l.spells in
      absurd (c.in_default.ensures.only l.records l.spells (sym (c.u16_at-count.ensures ∙ head.count))),
)

pub returns-then-end-used : goal.returns-then-end-used
returns-then-end-used c = (
  λ h. absurd (cc),
  λ l.
      let head = head_at c.args.leaf.now l.records l.spells in
      let ends = c.in-Some.ensures.only l.records l.spells (sym (c.u16_at-count.ensures ∙ head.count)) in
      absurd (c.if-end-used.true (ends.at_is ∙ ap (λ n. 4 + n) (sym (c.u16_at-used.ensures ∙ head.used)))),
)

pub returns : goal.returns
returns c =
    let leaf = c.args.leaf.now in
    let end = c.in-Some.end in
    let rest = ap (list_all (λ b. eqb b 0)) (take_rest leaf end) in (
      λ h. leaf_made leaf end c.requires (λ i. omega (arith, c.type_inv.leaf i)) (subst (λ n. RunsTo leaf n end) c.u16_at-count.ensures c.in-Some.ensures.spelled) (c.if-end-used.false ∙ ap (λ n. 4 + n) c.u16_at-used.ensures) (sym rest ∙ (sym c.is_zero.ensures ∙ h)),
      λ l.
          let head = head_at leaf l.records l.spells in
          let ends = c.in-Some.ensures.only l.records l.spells (sym (c.u16_at-count.ensures ∙ head.count)) in
          c.is_zero.ensures ∙ (rest ∙ leaf_zeros leaf l.records end ends),
    )
