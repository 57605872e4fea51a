-- A block that is given up keeps what ties the fields of a cache to its device.
use Rattle.std.proofs.Common.{◌≡◌, ◌≢◌, ◌⊎◌, ⊎_elim, ℕ, ◌<◌, ◌≤◌, Bool, true, false, nat_eq, eqb-true, List, length, Option, Some, None, refl, sym, ap, ◌∙◌, subst}
use Rattle.std.specs.List.{Contains}
use Rattle.std.specs.Map.{lookup, remove_entry}
use Rattle.std.proofs.lemmas.Bool.{cases_eq}
use Rattle.lru.specs.LruCache.{lru_cache, put_entries}
use Rattle.lru.proofs.CallerLemmas.{Contains-put_entries, Contains-remove_entry}
use Rattle.fo_disk.specs.Disk.{Content, latest_of, versions_of}
use Rattle.fo_buffers.specs.declared.block.Buffer.{Buffer}
use Rattle.fo_buffers.specs.Held.{Held, cut, held_at, unlisted}
use Rattle.fo_order.specs.Turns.{flag_at}
use Rattle.fo_labels.specs.Region.{Region}
use Rattle.fo_mind.specs.Parts.{Parts, bytes_at, bytes_of}
use Rattle.fo_mind.specs.Turning.{Released, is_changed, may_release}
use Rattle.fo_mind.proofs.Releasing.{Cuts, cuts_of, may_be}
use Rattle.fo_cache.specs.Fits.{Fits}
use Rattle.fo_cache.proofs.Outcomes.{lookup_contains}

some_none : {A : Type 0} (x : Buffer) → None ≡ Some x → A
some_none x e = cc

same_some : (x y : Buffer) → Some x ≡ Some y → x ≡ y
same_some x y e = cc

-- what is clean was clean, or is the block that was given up
still_clean : (at : ℕ) (old new : Held) (block : List ℕ) → (new ≡ record (cut old at) { clean = put_entries nat_eq (lru_cache (remove_entry (nat_eq at) old.clean) 1024) at block }) ⊎ (new ≡ cut (unlisted old at) at)
    → (b : ℕ) → b ≢ at → (bytes : List ℕ) → Contains new.clean (b, bytes) → Contains old.clean (b, bytes)
still_clean at old new block is b ne bytes c = ⊎_elim
    (λ e. ⊎_elim
    (λ before. Contains-remove_entry (nat_eq at) old.clean (b, bytes) before)
    (λ put. ⊎_elim (λ same. absurd (ne same)) (λ was. absurd (ne (sym (same_key b was.2)))) put.1)
    (Contains-put_entries nat_eq (lru_cache (remove_entry (nat_eq at) old.clean) 1024) at block (b, bytes) (subst (λ (h : Held). Contains h.clean (b, bytes)) e c)))
    (λ e. Contains-remove_entry (nat_eq at) old.clean (b, bytes) (subst (λ (h : Held). Contains h.clean (b, bytes)) e c))
    is
  where
    same_key : (k : ℕ) → nat_eq at k ≡ true → at ≡ k
    same_key k e = eqb-true at k e

module _ (p q : Parts) (at : ℕ) (holds : Content) (unsure : List Bool) (may : may_release p at ≡ true) (r : Released at p q) where
  cuts : Cuts at p.held q.held
  cuts = cuts_of at p.held q.held r.was.block r.is

  unchanged : r.was.dirty ≡ false
  unchanged = let m = may_be p at may in ap (λ (z : Buffer). z.dirty) (same_some r.was m.was (sym r.held ∙ m.held)) ∙ m.unchanged

  pub fits_released : Fits (record p { disk = holds }) unsure → Fits (record q { disk = holds }) unsure
  fits_released fits = record {
    each = λ b le lt.
        let old : p.region.first ≤ b = subst (λ (x : Region). x.first ≤ b) (ap (λ (z : Parts). z.region) r.rest) le in
        let was = fits.each b old lt in
        let same = ap (λ (z : Parts). flag_at z.turns b) r.rest in
        record {
          some = was.some;
          settled = λ e. was.settled (sym (ap (λ f. f.tried) same) ∙ e);
          sure = λ e. was.sure (sym (ap (λ f. f.tried) same) ∙ e);
          held = λ x is clean. ⊎_elim
              (λ e. some_none x (sym cuts.here ∙ ap (held_at q.held) (sym e) ∙ is))
              (λ ne. was.held x (sym (cuts.others b ne) ∙ is) clean)
              (cases_eq b at);
          listed = λ bytes none c. ⊎_elim
              (λ e. was.held r.was (ap (held_at p.held) e ∙ r.held) unchanged ∙ sym (r.alone bytes (subst (λ n. Contains q.held.clean (n, bytes)) e c)))
              (λ ne. was.listed bytes (sym (cuts.others b ne) ∙ none) (still_clean at p.held q.held r.was.block r.is b ne bytes c))
              (cases_eq b at);
        };
  }

  -- what isn't changed is in memory as the device has it
  calm_bytes : (z : Parts) → Fits (record z { disk = holds }) unsure → (b : ℕ) → z.region.first ≤ b → b < length holds → (o : Option Buffer) → held_at z.held b ≡ o → is_changed o ≡ false → bytes_at z.held holds b ≡ latest_of (versions_of holds b)
  calm_bytes z fits b le lt (Some x) is calm = ap (λ (o : Option Buffer). bytes_of o (lookup (nat_eq b) z.held.clean) (latest_of (versions_of holds b))) is ∙ sym ((fits.each b le lt).held x is calm)
  calm_bytes z fits b le lt None is calm = ap (λ (o : Option Buffer). bytes_of o (lookup (nat_eq b) z.held.clean) (latest_of (versions_of holds b))) is ∙ by (lookup (nat_eq b) z.held.clean) refl
    where
      by : (c : Option (List ℕ)) → lookup (nat_eq b) z.held.clean ≡ c → bytes_of None c (latest_of (versions_of holds b)) ≡ latest_of (versions_of holds b)
      by (Some bytes) e = sym ((fits.each b le lt).listed bytes is (lookup_contains b z.held.clean bytes e))
      by None e = refl

  pub bytes_released : Fits (record p { disk = holds }) unsure → (b : ℕ) → p.region.first ≤ b → b < length holds → bytes_at q.held holds b ≡ bytes_at p.held holds b
  bytes_released fits b le lt = ⊎_elim
      (λ e. calm_bytes q now b new_le lt None (ap (held_at q.held) e ∙ cuts.here) refl ∙ sym (calm_bytes p fits b le lt (Some r.was) (ap (held_at p.held) e ∙ r.held) unchanged))
      (λ ne. by (held_at p.held b) refl (cuts.others b ne))
      (cases_eq b at)
    where
      now : Fits (record q { disk = holds }) unsure
      now = fits_released fits

      new_le : q.region.first ≤ b
      new_le = subst (λ (x : Region). x.first ≤ b) (sym (ap (λ (z : Parts). z.region) r.rest)) le

      by : (o : Option Buffer) → held_at p.held b ≡ o → held_at q.held b ≡ held_at p.held b → bytes_at q.held holds b ≡ bytes_at p.held holds b
      by (Some x) is same = ap (λ (o : Option Buffer). bytes_of o (lookup (nat_eq b) q.held.clean) (latest_of (versions_of holds b))) (same ∙ is) ∙ sym (ap (λ (o : Option Buffer). bytes_of o (lookup (nat_eq b) p.held.clean) (latest_of (versions_of holds b))) is)
      by None is same = calm_bytes q now b new_le lt None (same ∙ is) refl ∙ sym (calm_bytes p fits b le lt None is refl)

-- a call that gives a block up where it may be
module _ (p q : Parts) (at : ℕ) (gone : may_release p at ≡ true → Released at p q) (kept : may_release p at ≡ false → q ≡ p) where
  pub region_stays : q.region ≡ p.region
  region_stays = by (may_release p at) refl
    where
      by : (m : Bool) → may_release p at ≡ m → q.region ≡ p.region
      by true e = ap (λ (z : Parts). z.region) (gone e).rest
      by false e = ap (λ (z : Parts). z.region) (kept e)

  pub turns_stay : q.turns ≡ p.turns
  turns_stay = by (may_release p at) refl
    where
      by : (m : Bool) → may_release p at ≡ m → q.turns ≡ p.turns
      by true e = ap (λ (z : Parts). z.turns) (gone e).rest
      by false e = ap (λ (z : Parts). z.turns) (kept e)

  pub fits_given_up : (holds : Content) (unsure : List Bool) → Fits (record p { disk = holds }) unsure → Fits (record q { disk = holds }) unsure
  fits_given_up holds unsure fits = by (may_release p at) refl
    where
      by : (m : Bool) → may_release p at ≡ m → Fits (record q { disk = holds }) unsure
      by true e = fits_released p q at holds unsure e (gone e) fits
      by false e = subst (λ (z : Parts). Fits (record z { disk = holds }) unsure) (sym (kept e)) fits

  pub bytes_given_up : (holds : Content) (unsure : List Bool) → Fits (record p { disk = holds }) unsure → (b : ℕ) → p.region.first ≤ b → b < length holds → bytes_at q.held holds b ≡ bytes_at p.held holds b
  bytes_given_up holds unsure fits b le lt = by (may_release p at) refl
    where
      by : (m : Bool) → may_release p at ≡ m → bytes_at q.held holds b ≡ bytes_at p.held holds b
      by true e = bytes_released p q at holds unsure e (gone e) fits b le lt
      by false e = ap (λ (z : Parts). bytes_at z.held holds b) (kept e)
