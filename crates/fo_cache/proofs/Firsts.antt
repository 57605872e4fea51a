-- The device has of block 1 what memory has, or what is in doubt.
use Rattle.std.proofs.Common.{◌≡◌, ◌≢◌, ⊎_elim, inl, inr, ℕ, zero, suc, Bool, true, false, ◌<◌, ◌≤◌, List, [], ◌∷◌, length, drop, Option, None, Some, Result, Ok, Err, refl, sym, ap, ◌∙◌, subst, arith}
use Rattle.std.specs.List.{Contains}
use Rattle.std.specs.Option.{MatchOption}
use Rattle.std.specs.Result.{OnOk, OnErr}
use Rattle.std.proofs.lemmas.List.Elements.{Contains-append_cases, Contains-append_right}
use Rattle.lru.proofs.Splits.{Contains-cons, Contains-nil}
use Rattle.fo_disk.specs.Disk.{Content, DiskState, IsSettled, IsSync, IsWrite, Versions, latest_of, versions_of}
use Rattle.fo_disk.specs.Disk.{Adds, Settles as Leaves}
use Rattle.fo_disk.specs.declared.disk.Failed.{Failed}
use Rattle.fo_disk.proofs.Images.{adds-here, appends-adds}
use Rattle.fo_image.specs.declared.types.Super.{Super}
use Rattle.std.proofs.lemmas.Bool.{cases_lt}
use Rattle.fo_image.specs.Field.{Four, number_at}
use Rattle.fo_image.specs.Format.{SpellsSuper}
use Rattle.fo_mind.specs.Parts.{Parts, least_limit}
use Rattle.fo_mind.proofs.Limits.{super_limit}
use Rattle.fo_mind.specs.Turning.{Landed, Missed, Released, Synced, Unpinned, may_release}
use Rattle.fo_cache.specs.Fits.{FitsOne, MayBeOne}
use Rattle.fo_cache.specs.Settling.{Rested}
use Rattle.fo_cache.proofs.Labelling.{count_kept, versions_kept}
use Rattle.fo_cache.proofs.Trials.{one_settled, synced_rested}

only : (v b : List ℕ) → Contains (v ∷ []) b → b ≡ v
only v b c = ⊎_elim (λ same. sym same) (λ none. absurd (Contains-nil b none)) (Contains-cons v [] b c)

dropped : (n : ℕ) (vs : Versions) (b : List ℕ) → Contains (drop n vs) b → Contains vs b
dropped zero vs b c = c
dropped (suc n) [] b c = c
dropped (suc n) (v ∷ vs) b c = Contains-append_right (v ∷ []) vs b (dropped n vs b c)

pub as_memory : (one : List ℕ) (doubt : Option (List ℕ)) (b : List ℕ) → b ≡ one → MayBeOne one doubt b
as_memory one None b e = e
as_memory one (Some d) b e = λ ne. absurd (ne e)

pub as_tried : (one : List ℕ) (doubt : Option (List ℕ)) (b : List ℕ) → doubt ≡ Some b → MayBeOne one doubt b
as_tried one doubt b e = subst (λ (o : Option (List ℕ)). MayBeOne one o b) (sym e) (λ ne. refl)

-- ---- where block 1 isn't written

pub one_like : (p q : Parts) (holds : Content) → q.one_bytes ≡ p.one_bytes → q.doubt ≡ p.doubt → FitsOne p.one_bytes p.doubt holds → FitsOne q.one_bytes q.doubt holds
one_like p q holds e1 e2 f = subst (λ (x : List ℕ). FitsOne x q.doubt holds) (sym e1) (subst (λ (o : Option (List ℕ)). FitsOne p.one_bytes o holds) (sym e2) f)

pub one_unpinned : (p q : Parts) (free : Type 0) (holds : Content) (o : Option ℕ) → MatchOption o ((q ≡ p) × free) (λ at. Unpinned at p q) → FitsOne p.one_bytes p.doubt holds → FitsOne q.one_bytes q.doubt holds
one_unpinned p q free holds None m f = one_like p q holds (ap (λ (z : Parts). z.one_bytes) m.0) (ap (λ (z : Parts). z.doubt) m.0) f
one_unpinned p q free holds (Some at) m f = one_like p q holds (ap (λ (z : Parts). z.one_bytes) m.rest) (ap (λ (z : Parts). z.doubt) m.rest) f

pub one_released : (p q : Parts) (at : ℕ) (holds : Content) → (may_release p at ≡ true → Released at p q) → (may_release p at ≡ false → q ≡ p) → FitsOne p.one_bytes p.doubt holds → FitsOne q.one_bytes q.doubt holds
one_released p q at holds gone kept f = by (may_release p at) refl
  where
    by : (x : Bool) → may_release p at ≡ x → FitsOne q.one_bytes q.doubt holds
    by true e = one_like p q holds (ap (λ (z : Parts). z.one_bytes) (gone e).rest) (ap (λ (z : Parts). z.doubt) (gone e).rest) f
    by false e = one_like p q holds (ap (λ (z : Parts). z.one_bytes) (kept e)) (ap (λ (z : Parts). z.doubt) (kept e)) f

one_elsewhere : (one : List ℕ) (doubt : Option (List ℕ)) (at : ℕ) {bytes : List ℕ} (s t : DiskState) (r : Result Unit Failed) → IsWrite at bytes r s t → 2 ≤ at → FitsOne one doubt s.holds → FitsOne one doubt t.holds
one_elsewhere one doubt at s t r w two f = record {
  each = λ b lt c.
      let n = count_kept r w in
      let ne : 1 ≢ at = λ e. absurd (omega (arith, e, two)) in
      f.each b (omega (arith, n, lt)) (subst (λ (vs : Versions). Contains vs b) (versions_kept r w 1 ne) c);
}

pub one_answered : (p q : Parts) (at : ℕ) {bytes : List ℕ} (s t : DiskState) (r : Result Unit Failed) → IsWrite at bytes r s t → 2 ≤ at → OnOk r (Landed at p q) → OnErr r (Missed at p q) → FitsOne p.one_bytes p.doubt s.holds → FitsOne q.one_bytes q.doubt t.holds
one_answered p q at s t (Ok u) w two l m f = one_like p q t.holds (ap (λ (z : Parts). z.one_bytes) l.rest) (ap (λ (z : Parts). z.doubt) l.rest) (one_elsewhere p.one_bytes p.doubt at s t (Ok u) w two f)
one_answered p q at s t (Err e) w two l m f = one_like p q t.holds (ap (λ (z : Parts). z.one_bytes) m.rest) (ap (λ (z : Parts). z.doubt) m.rest) (one_elsewhere p.one_bytes p.doubt at s t (Err e) w two f)

rested_contains : (old new : Versions) (b : List ℕ) → Rested old new → Contains new b → Contains old b
rested_contains old new b (inl e) c = subst (λ (vs : Versions). Contains vs b) e c
rested_contains old new b (inr e) c = dropped _ old b (subst (λ (vs : Versions). Contains vs b) e c)

sync_count : (s t : DiskState) (r : Result Unit Failed) → IsSync r s t → length t.holds ≡ length s.holds
sync_count s t (Ok u) y = let leaves : Leaves s.unsure s.holds t.holds = y.holds in leaves.count
sync_count s t (Err e) y = ap length y.holds

one_synced : (one : List ℕ) (doubt : Option (List ℕ)) (s t : DiskState) (r : Result Unit Failed) → IsSync r s t → FitsOne one doubt s.holds → FitsOne one doubt t.holds
one_synced one doubt s t r y f = record {
  each = λ b lt c. let n = sync_count s t r y in f.each b (omega (arith, n, lt)) (rested_contains (versions_of s.holds 1) (versions_of t.holds 1) b (synced_rested s t r y 1) c);
}

pub one_settled_too : (p q : Parts) (s t : DiskState) (r : Result Unit Failed) → IsSync r s t → OnOk r (Synced p q) → OnErr r (q ≡ p) → FitsOne p.one_bytes p.doubt s.holds → FitsOne q.one_bytes q.doubt t.holds
one_settled_too p q s t (Ok u) y c n f = one_like p q t.holds (ap (λ (z : Parts). z.one_bytes) c.rest) (ap (λ (z : Parts). z.doubt) c.rest) (one_synced p.one_bytes p.doubt s t (Ok u) y f)
one_settled_too p q s t (Err e) y c n f = one_like p q t.holds (ap (λ (z : Parts). z.one_bytes) n) (ap (λ (z : Parts). z.doubt) n) (one_synced p.one_bytes p.doubt s t (Err e) y f)

-- ---- where it is written

module _ (one : List ℕ) (doubt : Option (List ℕ)) (bytes : List ℕ) (s t : DiskState) (f : FitsOne one doubt s.holds) (may : MayBeOne one doubt bytes) where
  added : Adds 1 bytes s.holds t.holds → length t.holds ≡ length s.holds → FitsOne one doubt t.holds
  added a n = record {
    each = λ b lt c.
        let inside : 1 < length s.holds = omega (arith, n, lt) in
        ⊎_elim (λ old. f.each b inside (dropped a.gone (versions_of s.holds 1) b old)) (λ new. subst (λ (x : List ℕ). MayBeOne one doubt x) (sym (only bytes b new)) may)
        (Contains-append_cases (drop a.gone (versions_of s.holds 1)) (bytes ∷ []) b (subst (λ (vs : Versions). Contains vs b) (adds-here a inside) c));
  }

  pub one_written : (r : Result Unit Failed) → IsWrite 1 bytes r s t → FitsOne one doubt t.holds
  one_written (Ok u) w = added w.holds (count_kept (Ok u) w)
  one_written (Err e) w = ⊎_elim (λ same. subst (λ (h : Content). FitsOne one doubt h) (sym same) f) (λ a. added (appends-adds a) (count_kept (Err e) w)) w.holds

-- ---- where it counts

pub one_alone : (one : List ℕ) (doubt : Option (List ℕ)) (holds : Content) → (1 < length holds → versions_of holds 1 ≡ one ∷ []) → FitsOne one doubt holds
one_alone one doubt holds alone = record { each = λ b lt c. as_memory one doubt b (only one b (subst (λ (vs : Versions). Contains vs b) (alone lt) c)) }

pub one_tried : (one bytes : List ℕ) (doubt : Option (List ℕ)) (holds : Content) → doubt ≡ None → FitsOne one doubt holds → FitsOne one (Some bytes) holds
one_tried one bytes doubt holds e f = record { each = λ b lt c. λ ne. absurd (ne (subst (λ (o : Option (List ℕ)). MayBeOne one o b) e (f.each b lt c))) }

one_version : (vs : Versions) → length vs ≡ 1 → vs ≡ latest_of vs ∷ []
one_version [] e = absurd (omega (arith, e))
one_version (v ∷ []) e = refl
one_version (v ∷ w ∷ vs) e = let h : length (v ∷ w ∷ vs) ≡ 1 = e in absurd (omega (arith, h))

pub one_opened : (p : Parts) (holds : Content) → ((b : ℕ) → b < length holds → IsSettled holds b) → (1 < length holds → latest_of (versions_of holds 1) ≡ p.one_bytes) → FitsOne p.one_bytes p.doubt holds
one_opened p holds settled is = one_alone p.one_bytes p.doubt holds (λ lt. one_version (versions_of holds 1) (settled 1 lt) ∙ ap (λ (x : List ℕ). x ∷ []) (is lt))

pub one_accepted : (p q : Parts) (one : Super) (none some : Type 0) (holds : Content) (o : Option (List ℕ)) → p.doubt ≡ o → MatchOption o (none × (q ≡ p)) (λ bytes. some × (q ≡ record p { one = one; one_bytes = bytes; doubt = None })) → ((bytes : List ℕ) → o ≡ Some bytes → 1 < length holds → versions_of holds 1 ≡ bytes ∷ []) → FitsOne p.one_bytes p.doubt holds → FitsOne q.one_bytes q.doubt holds
one_accepted p q one none some holds None is m alone f = one_like p q holds (ap (λ (z : Parts). z.one_bytes) m.1) (ap (λ (z : Parts). z.doubt) m.1) f
one_accepted p q one none some holds (Some bytes) is m alone f = subst (λ (z : Parts). FitsOne z.one_bytes z.doubt holds) (sym m.1) (one_alone bytes None holds (alone bytes refl))

same_some : (a b : List ℕ) → Some a ≡ Some b → a ≡ b
same_some a b e = cc

inside : (s m t : DiskState) {bytes : List ℕ} (r v : Result Unit Failed) → IsWrite 1 bytes r s m → IsSync v m t → 1 < length t.holds → 1 < length s.holds
inside s m t r v w y lt = let a = count_kept r w in let b = sync_count m t v y in omega (arith, a, b, lt)

pub memory_alone : (s m t : DiskState) (p n : Parts) {u v : Unit} → IsWrite {E = Failed} 1 p.one_bytes (Ok u) s m → IsSync {E = Failed} (Ok v) m t → Synced p n → 1 < length t.holds → versions_of t.holds 1 ≡ n.one_bytes ∷ []
memory_alone s m t p n {u} {v} w y c lt = one_settled s m t w y (inside s m t (Ok u) (Ok v) w y lt) ∙ ap (λ (z : Parts). z.one_bytes ∷ []) (sym c.rest)

pub tried_alone : (s m t : DiskState) (p n : Parts) (tried : List ℕ) {u v : Unit} → IsWrite {E = Failed} 1 tried (Ok u) s m → IsSync {E = Failed} (Ok v) m t → Synced (record p { doubt = Some tried }) n → (bytes : List ℕ) → n.doubt ≡ Some bytes → 1 < length t.holds → versions_of t.holds 1 ≡ bytes ∷ []
tried_alone s m t p n tried {u} {v} w y c bytes e lt = one_settled s m t w y (inside s m t (Ok u) (Ok v) w y lt) ∙ ap (λ (x : List ℕ). x ∷ []) (same_some tried bytes (sym (ap (λ (z : Parts). z.doubt) c.rest) ∙ e))

-- ---- file numbers

pub limited : (one : Super) (was : List ℕ) (doubt : Option (List ℕ)) (bytes : List ℕ) (next : ℕ) → SpellsSuper one was → next ≤ least_limit one doubt → MayBeOne was doubt bytes → next ≤ number_at Four 22 bytes
limited one was None bytes next s le e =
    let n = super_limit one was s in
    let h = ap (number_at Four 22) e in
    omega (arith, n, h, le)
limited one was (Some tried) bytes next s le may = ⊎_elim (λ lt. absurd (above lt)) (λ ge. ge) (cases_lt (number_at Four 22 bytes) next)
  where
    above : number_at Four 22 bytes < next → ⊥
    above lt =
        let n = super_limit one was s in
        let other = may (λ e. let h = ap (number_at Four 22) e in omega (arith, n, h, le, lt)) in
        let h = ap (number_at Four 22) other in
        omega (arith, h, le, lt)
