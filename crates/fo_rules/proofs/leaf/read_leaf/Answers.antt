use Rattle.std.proofs.Common.{◌≡◌, ◌+◌, ◌-◌, ◌≤◌, take, drop, true, false, refl, sym, ap, ◌∙◌, arith}
use Rattle.std.specs.Prelude.{nat_eq}
use Rattle.std.specs.List.{list_all}
use Rattle.fo_image.specs.Field.{Two, number}
use Rattle.fo_rules.proofs.Fronts.{leaf_head, all_behind, read_answer}
use Rattle.fo_rules.proofs.leaf.read_leaf.Goals as goal
use Rattle.fo_rules.proofs.leaf.read_leaf.Goals.{then-end-gt8192-via-then-end-gt8192, then-end-gt8192-via-else-end-gt8192+then-not-is_zero}

pub returns-then-end-gt8192 : goal.returns-then-end-gt8192
returns-then-end-gt8192 c = λ is.
    let leaf = c.args.leaf.now in
    let h = leaf_head leaf is in
    let zeros : list_all (λ b. nat_eq b 0) (drop (4 + c.u16_at-used.result) leaf) ≡ true = ap (λ n. list_all (λ b. nat_eq b 0) (drop (4 + n) leaf)) c.u16_at-used.ensures ∙ h.empty in
    elim c.then-end-gt8192.branch [
      | then-end-gt8192-via-then-end-gt8192 w ↦ omega (arith, h.room, c.u16_at-used.ensures)
      | then-end-gt8192-via-else-end-gt8192+then-not-is_zero w ↦
          let no : false ≡ true = sym w.if-not-is_zero.true ∙ w.is_zero.ensures ∙ all_behind leaf (4 + c.u16_at-used.result) ∙ zeros in
          cc
    ]

pub returns-then-not-is_head : goal.returns-then-not-is_head
returns-then-not-is_head c = λ is.
    let h = leaf_head c.args.leaf.now is in
    let no : false ≡ true = c.if-not-is_head.ensures.1 (h.first ∙ ap (number Two) (sym c.u16_at-count.ensures), h.second ∙ ap (number Two) (sym c.u16_at-used.ensures)) in
    cc

pub returns : goal.returns
returns c =
    let leaf = c.args.leaf.now in
    let used = c.u16_at-used.result in
    let le : 4 + used ≤ 8192 = omega arith in
    let zeros : list_all (λ b. nat_eq b 0) (drop (4 + used) leaf) ≡ true = sym (all_behind leaf (4 + used)) ∙ sym c.is_zero.ensures ∙ c.if-not-is_zero.false in
    let head = c.if-not-is_head.ensures.0 refl in
    read_answer (λ v. v.items) leaf (take (4 + used - 4) (drop 4 leaf)) c.u16_at-count.result used c.read_records.result c.requires le zeros head.0 head.1 c.u16_at-count.ensures c.u16_at-used.ensures (ap (λ n. take n (drop 4 leaf)) (omega arith)) c.read_records.ensures
