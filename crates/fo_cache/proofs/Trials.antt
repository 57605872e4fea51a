-- Block 1 is written and settled.
use Rattle.std.proofs.Common.{◌≡◌, ◌≢◌, inl, inr, ⊎_elim, ℕ, ◌<◌, ◌≤◌, Bool, true, false, cond, List, [], ◌∷◌, ◌++◌, length, drop, get_or, None, Some, Option, Result, Ok, Err, refl, sym, ap, ◌∙◌, subst, arith}
use Rattle.std.specs.Option.{MatchOption}
use Rattle.std.proofs.lemmas.Bool.{cases_lt}
use Rattle.std.proofs.lemmas.List.{get_or_past, length_push}
use Rattle.fo_disk.specs.Disk.{Content, DiskState, IsSync, IsWrite, Versions, newest, versions_of}
use Rattle.fo_disk.specs.Disk.{Settles as Leaves}
use Rattle.fo_disk.specs.declared.disk.Failed.{Failed}
use Rattle.fo_disk.proofs.Images.{adds-here, sure as no_flag}
use Rattle.fo_image.specs.declared.types.Super.{Super}
use Rattle.fo_image.specs.Format.{SpellsSuper}
use Rattle.fo_order.specs.Turns.{IsSynced}
use Rattle.fo_mind.specs.Parts.{Parts, count_of}
use Rattle.fo_mind.specs.Sound.{Placed}
use Rattle.fo_mind.specs.Turning.{Synced}
use Rattle.fo_cache.specs.Fits.{Fits, FitsLabels}
use Rattle.fo_cache.specs.Settling.{Rested}
use Rattle.fo_cache.specs.Supers.{Counts, Overruled}
use Rattle.fo_cache.proofs.Fitting.{fits_same, latest_push, newest_alone}
use Rattle.fo_cache.proofs.Labelling.{count_kept, labels_same, unsure_kept, versions_kept}

-- ---- block 1 is no data block, and no block of labels

module _ {first count : ℕ} {bytes : List ℕ} (s t : DiskState) (p : Parts) (placed : Placed p.region p.turns p.facts first count) (r : Result Unit Failed) (w : IsWrite 1 bytes r s t) where
  pub fits_one : Fits (record p { disk = s.holds }) s.unsure → Fits (record p { disk = t.holds }) t.unsure
  fits_one fits = record {
    each = λ b le lt.
        let f = placed.is_first in
        let begins = placed.begins in
        let ne : b ≢ 1 = λ e. absurd (omega (arith, e, f, begins, le)) in
        let inside : b < length s.holds = let n = count_kept r w in omega (arith, n, lt) in
        fits_same (versions_kept r w b ne) refl refl refl (unsure_kept r w b ne) (fits.each b le inside);
  }

  pub labels_one : FitsLabels (record p { disk = s.holds }) s.unsure → FitsLabels (record p { disk = t.holds }) t.unsure
  labels_one fits = record {
    each = λ b two before lt.
        let ne : b ≢ 1 = λ e. absurd (omega (arith, e, two)) in
        let inside : b < length s.holds = let n = count_kept r w in omega (arith, n, lt) in
        labels_same p.region (versions_kept r w b ne) refl (unsure_kept r w b ne) (fits.each b two before inside);
  }

pub one_within : (p : Parts) {first count : ℕ} (size : ℕ) → Placed p.region p.turns p.facts first count → count_of p.region ≤ size → 1 < size
one_within p size placed sized =
    let f = placed.is_first in
    let begins = placed.begins in
    omega (arith, f, begins, sized)

-- ---- only the super block changes

module _ (p q : Parts) (one : Super) (bytes : List ℕ) (doubt : Option (List ℕ)) (is : q ≡ record p { one = one; one_bytes = bytes; doubt = doubt }) (holds : Content) (unsure : List Bool) where
  pub fits_alike : Fits (record p { disk = holds }) unsure → Fits (record q { disk = holds }) unsure
  fits_alike fits = subst (λ (z : Parts). Fits (record z { disk = holds }) unsure) (sym is) (record { each = fits.each })

  pub labels_alike : FitsLabels (record p { disk = holds }) unsure → FitsLabels (record q { disk = holds }) unsure
  labels_alike fits = subst (λ (z : Parts). FitsLabels (record z { disk = holds }) unsure) (sym is) (record { each = fits.each })

  pub sized_alike : (size : ℕ) → count_of p.region ≤ size → count_of q.region ≤ size
  sized_alike size le = subst (λ (z : Parts). count_of z.region ≤ size) (sym is) le

-- ---- a write and a sync

pub synced_rested : (s t : DiskState) (r : Result Unit Failed) → IsSync r s t → (b : ℕ) → Rested (versions_of s.holds b) (versions_of t.holds b)
synced_rested s t (Ok u) y b = ⊎_elim (λ lt. by_flag (get_or s.unsure b false) (leaves.each b lt)) (λ le. inl (past le)) (cases_lt b (length s.holds))
  where
    leaves : Leaves s.unsure s.holds t.holds
    leaves = y.holds

    past : length s.holds ≤ b → versions_of t.holds b ≡ versions_of s.holds b
    past le = let n = leaves.count in get_or_past t.holds b [] (omega (arith, le, n)) ∙ sym (get_or_past s.holds b [] le)

    by_flag : (u : Bool) → versions_of t.holds b ≡ cond u (versions_of s.holds b) (newest (versions_of s.holds b)) → Rested (versions_of s.holds b) (versions_of t.holds b)
    by_flag true e = inl e
    by_flag false e = inr e
synced_rested s t (Err e) y b = inl (ap (λ (h : Content). versions_of h b) y.holds)

-- other blocks are not written
pub others_rested : (s m t : DiskState) {bytes : List ℕ} (r v : Result Unit Failed) → IsWrite 1 bytes r s m → IsSync v m t → (b : ℕ) → b ≢ 1 → Rested (versions_of s.holds b) (versions_of t.holds b)
others_rested s m t r v w y b ne = subst (λ (vs : Versions). Rested vs (versions_of t.holds b)) (versions_kept r w b ne) (synced_rested m t v y b)

-- and as many blocks are told
pub count_synced : (s t : DiskState) (r : Result Unit Failed) → IsSync r s t → length t.holds ≡ length s.holds
count_synced s t (Ok u) y = let leaves : Leaves s.unsure s.holds t.holds = y.holds in leaves.count
count_synced s t (Err e) y = ap length y.holds

pub count_tried : (s m t : DiskState) {bytes : List ℕ} (r v : Result Unit Failed) → IsWrite 1 bytes r s m → IsSync v m t → length t.holds ≡ length s.holds
count_tried s m t r v w y = count_synced m t v y ∙ count_kept r w

pub one_settled : (s m t : DiskState) {bytes : List ℕ} {u v : Unit} → IsWrite {E = Failed} 1 bytes (Ok u) s m → IsSync {E = Failed} (Ok v) m t → 1 < length s.holds → versions_of t.holds 1 ≡ bytes ∷ []
one_settled s m t {bytes} {u} {v} w y lt =
    let here = adds-here w.holds lt in
    let leaves : Leaves m.unsure m.holds t.holds = y.holds in
    let inside : 1 < length m.holds = let n = count_kept (Ok u) w in omega (arith, n, lt) in
    let some : 0 < length (drop w.holds.gone (versions_of s.holds 1) ++ bytes ∷ []) = let n = length_push (drop w.holds.gone (versions_of s.holds 1)) bytes in omega (arith, n) in
    leaves.each 1 inside
    ∙ ap (λ x. cond x (versions_of m.holds 1) (newest (versions_of m.holds 1))) (no_flag s.unsure m.unsure 1 w.unsure)
    ∙ ap newest here
    ∙ newest_alone (drop w.holds.gone (versions_of s.holds 1) ++ bytes ∷ []) some
    ∙ ap (λ (x : List ℕ). x ∷ []) (latest_push (drop w.holds.gone (versions_of s.holds 1)) bytes)

pub overruled : (s m t : DiskState) (p n q : Parts) {u v : Unit} → IsWrite {E = Failed} 1 p.one_bytes (Ok u) s m → IsSync {E = Failed} (Ok v) m t → Synced p n → q ≡ record n { doubt = None } → Overruled s t p q
overruled s m t p n q w y c is = record {
  settled = λ lt. one_settled s m t w y lt;
  turns = subst (λ (z : Parts). IsSynced p.turns z.turns) (sym is) c.turns;
  rest = is ∙ ap (λ (z : Parts). record z { doubt = None }) c.rest ∙ ap (λ (z : Parts). record p { turns = z.turns; doubt = None }) (sym is);
}

-- a trial that was written and settled counts
pub counted : (s m t : DiskState) (p n q : Parts) (one : Super) (bytes : List ℕ) (none some : Type 0) {u v : Unit} → SpellsSuper one bytes → IsWrite {E = Failed} 1 bytes (Ok u) s m → IsSync {E = Failed} (Ok v) m t → Synced (record p { doubt = Some bytes }) n
    → MatchOption n.doubt (none × (q ≡ n)) (λ x. some × (q ≡ record n { one = one; one_bytes = x; doubt = None })) → Counts one s t p q
counted s m t p n q one bytes none some spells w y c h =
    let tried : n.doubt ≡ Some bytes = ap (λ (z : Parts). z.doubt) c.rest in
    let now = subst (λ (o : Option (List ℕ)). MatchOption o (none × (q ≡ n)) (λ x. some × (q ≡ record n { one = one; one_bytes = x; doubt = None }))) tried h in
    let is : q ≡ record p { one = one; one_bytes = bytes; turns = n.turns; doubt = None } = now.1 ∙ ap (λ (z : Parts). record z { one = one; one_bytes = bytes; doubt = None }) c.rest in
    subst (λ (z : Parts). Counts one s t p z) (sym is) (record { spells = spells; settled = λ lt. one_settled s m t w y lt; turns = c.turns; rest = refl })

-- a trial that counts changes the super block alone
pub accepted : (p q : Parts) (one : Super) (o : Option (List ℕ)) (none some : Type 0) → MatchOption o (none × (q ≡ p)) (λ bytes. some × (q ≡ record p { one = one; one_bytes = bytes; doubt = None })) → q ≡ record p { one = q.one; one_bytes = q.one_bytes; doubt = q.doubt }
accepted p q one None none some m = m.1 ∙ ap (λ (z : Parts). record p { one = z.one; one_bytes = z.one_bytes; doubt = z.doubt }) (sym m.1)
accepted p q one (Some bytes) none some m = m.1 ∙ ap (λ (z : Parts). record p { one = z.one; one_bytes = z.one_bytes; doubt = z.doubt }) (sym m.1)
