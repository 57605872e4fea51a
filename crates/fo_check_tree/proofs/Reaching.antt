-- Which blocks were reached, once one more is marked.
use Rattle.std.proofs.Common.{◌≡◌, ◌≢◌, ◌⊎◌, ⊎_elim, inl, inr, ℕ, ◌<◌, true, List, length, get_or, set, get_or-set_same, get_or-set_other, length-set, refl, sym, ap, ◌∙◌, subst, arith}
use Rattle.std.specs.List.{Any}
use Rattle.std.proofs.lemmas.Bool.{cases_eq, cases_lt, false≢true}
use Rattle.std.proofs.lemmas.List.{get_or_default}
use Rattle.fo_disk.specs.Disk.{Block}
use Rattle.fo_image.specs.declared.types.Label.{Label}
use Rattle.fo_sound.specs.Image.{IsDataBlock, HasLabel}
use Rattle.fo_check_labels.specs.declared.labels.Known.{Known}
use Rattle.fo_check_labels.specs.Known.{Ascend, IsKnown, Marks}
use Rattle.fo_check_tree.specs.Walking.{Reached, IsTaken, IsTable}
use Rattle.fo_check_labels.proofs.Marking.{Ascend-marked, only_label}

pub one_index : (known : List Known) (at i j : ℕ) (d : Known) → Ascend known → i < length known → j < length known → (get_or known i d).address ≡ at → (get_or known j d).address ≡ at → i ≡ j
one_index known at i j d up li lj a b = ⊎_elim (λ same. same)
    (λ (apart : i ≢ j). ⊎_elim
    (λ before. let less = up i j d before lj in absurd (omega (arith, a, b)))
    (λ from. let less = up j i d (omega (arith, from, apart)) li in absurd (omega (arith, a, b)))
    (cases_lt i j))
    (cases_eq i j)

-- A block that was reached is one of the list.
pub is_known : (known : List Known) (at : ℕ) (l : Label) → Reached known at l → Any (IsKnown at l) known
is_known known at l a = (a.0, a.1, a.2, a.3, record { address_is = a.4.address_is; label_is = a.4.label_is })

pub same_label : (known : List Known) (at : ℕ) (l m : Label) → Ascend known → Reached known at l → Reached known at m → l ≡ m
same_label known at l m up a b = only_label known at l m up (is_known known at l a) (is_known known at m b)

module _ (known known' : List Known) (at : ℕ) (up : Ascend known) (w : Marks at known known') where
  marked : Known → Known
  marked d = record { address = (get_or known w.at d).address; label = (get_or known w.at d).label; reached = true }

  is_set : (d : Known) → known' ≡ set known w.at (marked d)
  unfolding marked
  is_set d = w.after d

  here : (d : Known) → get_or known' w.at d ≡ marked d
  here d = ap (λ (ks : List Known). get_or ks w.at d) (is_set d) ∙ get_or-set_same known w.at (marked d) d w.block.within

  there : (i : ℕ) (d : Known) → i ≢ w.at → get_or known' i d ≡ get_or known i d
  there i d apart = ap (λ (ks : List Known). get_or ks i d) (is_set d) ∙ get_or-set_other known w.at i (marked d) d apart

  long : (d : Known) → length known' ≡ length known
  long d = ap (λ (ks : List Known). length ks) (is_set d) ∙ length-set known w.at (marked d)

  same_address : (d : Known) → (marked d).address ≡ (get_or known w.at d).address
  unfolding marked
  same_address d = refl

  label_here : (d : Known) → (marked d).label ≡ (get_or known w.at d).label
  unfolding marked
  label_here d = refl

  reached_here : (d : Known) → (marked d).reached ≡ true
  unfolding marked
  reached_here d = refl

  pub reached_kept : (b : ℕ) (l : Label) → Reached known b l → Reached known' b l
  reached_kept b l a = ⊎_elim
      (λ (same : a.0 ≡ w.at). absurd (false≢true (sym (w.before a.1) ∙ ap (λ (n : ℕ). (get_or known n a.1).reached) (sym same) ∙ ap (λ (k : Known). k.reached) a.3 ∙ a.4.reached_is)))
      (λ (apart : a.0 ≢ w.at). (a.0, a.1, omega (arith, a.2, long a.1), there a.0 a.1 apart ∙ a.3, a.4))
      (cases_eq a.0 w.at)

  pub reached_cases : (b : ℕ) (l : Label) → Reached known' b l → (b ≡ at) ⊎ Reached known b l
  reached_cases b l a = ⊎_elim
      (λ (same : a.0 ≡ w.at). inl (sym a.4.address_is ∙ ap (λ (k : Known). k.address) (sym a.3 ∙ ap (λ (n : ℕ). get_or known' n a.1) same ∙ here a.1) ∙ same_address a.1 ∙ w.block.is a.1))
      (λ (apart : a.0 ≢ w.at). inr (a.0, a.1, omega (arith, a.2, long a.1), sym (there a.0 a.1 apart) ∙ a.3, a.4))
      (cases_eq a.0 w.at)

  pub not_before : (l : Label) → Reached known at l → ⊥
  not_before l a =
      let same : a.0 ≡ w.at = one_index known at a.0 w.at a.1 up a.2 w.block.within (ap (λ (k : Known). k.address) a.3 ∙ a.4.address_is) (w.block.is a.1) in
      false≢true (sym (w.before a.1) ∙ ap (λ (n : ℕ). (get_or known n a.1).reached) (sym same) ∙ ap (λ (k : Known). k.reached) a.3 ∙ a.4.reached_is)

  pub reached_new : (l : Label) → Any (IsKnown at l) known → Reached known' at l
  reached_new l a =
      let same : a.0 ≡ w.at = one_index known at a.0 w.at a.1 up a.2 w.block.within (ap (λ (k : Known). k.address) a.3 ∙ a.4.address_is) (w.block.is a.1) in
      let k : Known = marked a.1 in
      let has : (get_or known w.at a.1).label ≡ l = ap (λ (n : ℕ). (get_or known n a.1).label) (sym same) ∙ ap (λ (m : Known). m.label) a.3 ∙ a.4.label_is in (
        w.at,
        k,
        omega (arith, w.block.within, long a.1),
        get_or_default known' w.at k a.1 (omega (arith, w.block.within, long a.1)) ∙ here a.1,
        record { address_is = same_address a.1 ∙ w.block.is a.1; label_is = label_here a.1 ∙ has; reached_is = reached_here a.1 },
      )

  -- what is so of each block of the list, reached or not
  pub known_kept : (b : ℕ) (l : Label) → Any (IsKnown b l) known → Any (IsKnown b l) known'
  known_kept b l a = ⊎_elim
      (λ (same : a.0 ≡ w.at).
      let k : Known = marked a.1 in
      let old : get_or known w.at a.1 ≡ a.1 = ap (λ (n : ℕ). get_or known n a.1) (sym same) ∙ a.3 in (
        w.at,
        k,
        omega (arith, w.block.within, long a.1),
        get_or_default known' w.at k a.1 (omega (arith, w.block.within, long a.1)) ∙ here a.1,
        record { address_is = same_address a.1 ∙ ap (λ (m : Known). m.address) old ∙ a.4.address_is; label_is = label_here a.1 ∙ ap (λ (m : Known). m.label) old ∙ a.4.label_is },
      ))
      (λ (apart : a.0 ≢ w.at). (a.0, a.1, omega (arith, a.2, long a.1), there a.0 a.1 apart ∙ a.3, a.4))
      (cases_eq a.0 w.at)

  pub table_kept : (device : List Block) → IsTable device known → IsTable device known'
  table_kept device t = record {
    right = λ i d lt. ⊎_elim
        (λ (same : i ≡ w.at).
        let r = t.right w.at d w.block.within in
        subst (λ (k : Known). IsTaken device k) (sym (ap (λ (n : ℕ). get_or known' n d) same ∙ here d))
        (record {
          place = subst (λ (n : ℕ). IsDataBlock (length device) n) (sym (same_address d)) r.place;
          has = subst (λ (n : ℕ). HasLabel device n (marked d).label) (sym (same_address d)) (subst (λ (m : Label). HasLabel device (get_or known w.at d).address m) (sym (label_here d)) r.has);
          used = λ free. r.used (ap (λ (m : Label). m.state) (sym (label_here d)) ∙ free);
        }))
        (λ (apart : i ≢ w.at). subst (λ (k : Known). IsTaken device k) (sym (there i d apart)) (t.right i d (omega (arith, lt, long d))))
        (cases_eq i w.at);
    listed = λ b l place has used. known_kept b l (t.listed b l place has used);
    up = λ i j d less within. subst (λ (ks : List Known). (get_or ks i d).address < (get_or ks j d).address) (sym (is_set d))
        (Ascend-marked known w.at (marked d) w.block.within (λ e. same_at e d) t.up i j d less (omega (arith, within, long d, length-set known w.at (marked d))));
  }
    where
      same_at : (e d : Known) → (marked d).address ≡ (get_or known w.at e).address
      same_at e d = same_address d ∙ ap (λ (k : Known). k.address) (get_or_default known w.at d e w.block.within)
