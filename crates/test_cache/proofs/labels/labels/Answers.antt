use Rattle.std.proofs.Common.{◌≡◌, ⊎_elim, ℕ, ◌+◌, ◌-◌, ◌<◌, ◌≤◌, List, length, get_or, set, replicate, refl, sym, ap, ◌∙◌, subst, arith}
use Rattle.std.proofs.lemmas.Bool.{cases_eq, cases_lt}
use Rattle.std.proofs.lemmas.List.{length-set, length-replicate, get_or-set_same, get_or-set_other, get_or-replicate}
use Rattle.fo_image.specs.declared.types.Label.{Label}
use Rattle.fo_image.specs.Format.{LabelHolds}
use Rattle.fo_image.specs.Usable.{free_label}
use Rattle.fo_labels.specs.Region.{Region, IsDataBlock, label_of, relabeled}
use Rattle.fo_labels.specs.Spelled.{AreLabels}
use Rattle.test_cache.proofs.labels.labels.Goals as goal

free : (first n : ℕ) → AreLabels (record { first = first; labels = replicate n free_label })
free first n = record {
  each = λ at block.
      let to = block.to in
      let from = block.from in
      let l = length-replicate n free_label in
      subst LabelHolds (sym (get_or-replicate n (at - first) free_label free_label (omega (arith, to, from, l)))) (record { state_holds = (refl, refl, refl, refl) });
}

more : (r : Region) (at : ℕ) (l : Label) → IsDataBlock r at → LabelHolds l → AreLabels r → AreLabels (relabeled r at l)
more r at l is holds all = record {
  each = λ b block. ⊎_elim
      (λ e. subst LabelHolds (sym (ap (λ n. get_or (set r.labels (at - r.first) l) n free_label) e ∙ get_or-set_same r.labels (at - r.first) l free_label (let lo = is.from in let hi = is.to in omega (arith, lo, hi)))) holds)
      (λ ne. subst LabelHolds (sym (get_or-set_other r.labels (at - r.first) (b - r.first) l free_label ne)) (all.each b (record { from = block.from; to = (let hi = block.to in let n = length-set r.labels (at - r.first) l in omega (arith, hi, n)) })))
      (cases_eq (b - r.first) (at - r.first));
}

both : {r s t : Region} {l m : Label} → r ≡ record { first = 3; labels = replicate (64 - 3) free_label } → s ≡ relabeled r 3 l → t ≡ relabeled s 4 m → LabelHolds l → LabelHolds m → AreLabels t
both {r} {s} {t} {l} {m} e f g hl hm =
    let n = length-replicate (64 - 3) free_label in
    let k = length-set (replicate (64 - 3) free_label) (3 - 3) l in
    let start : Region = record { first = 3; labels = replicate (64 - 3) free_label } in
    subst AreLabels (sym (g ∙ ap (λ (z : Region). relabeled z 4 m) (f ∙ ap (λ (z : Region). relabeled z 3 l) e)))
    (more (relabeled start 3 l) 4 m (record { from = omega arith; to = omega (arith, n, k) }) hm
    (more start 3 l (record { from = omega arith; to = omega (arith, n) }) hl (free 3 (64 - 3))))

pub returns : goal.returns
returns c = both c.in_ok-labels.ensures c.restore.ensures c.restore-2.ensures (record { state_holds = (tt, (omega arith, omega arith), refl) }) (record { state_holds = (omega arith, (omega arith, omega arith), omega arith, omega arith) })
