-- A block that is given up is clean once.
use Rattle.std.proofs.Common.{◌≡◌, ◌⊎◌, inl, inr, ⊎_elim, ℕ, Bool, true, false, cond, List, [], ◌∷◌, nat_eq, Some, None, Result, Ok, Err, refl, sym, ap, ◌∙◌, subst, eqb-true}
use Rattle.std.specs.Cmp.{nat_eq_equiv}
use Rattle.std.specs.List.{Contains, IsDistinct}
use Rattle.std.specs.Map.{keys_of, lookup, remove_entry}
use Rattle.std.specs.Result.{OnOk, OnErr}
use Rattle.std.proofs.lemmas.Map.{lookup-remove_entry}
use Rattle.lru.specs.LruCache.{LruCache, lru_cache, put_entries}
use Rattle.lru.proofs.CallerLemmas.{Contains-put_entries}
use Rattle.lru.proofs.Splits.{Contains-cons, Contains-nil}

gone : (at : ℕ) (es : List (ℕ × List ℕ)) → IsDistinct nat_eq (keys_of es) → lookup (nat_eq at) (remove_entry (nat_eq at) es) ≡ None
gone at es once = lookup-remove_entry nat_eq_equiv (nat_eq at) alike at es once ∙ ap (λ t. cond t None (lookup (nat_eq at) es)) (nat_eq_equiv.refl at)
  where
    alike : (x y : ℕ) → nat_eq at x ≡ true → nat_eq at y ≡ nat_eq x y
    alike x y e = ap (λ n. nat_eq n y) (eqb-true at x e)

some_none : {A : Type 0} (x : List ℕ) → Some x ≡ None → A
some_none x e = cc

never : {A : Type 0} → false ≡ true → A
never e = cc

absent_step : (at : ℕ) (e : ℕ × List ℕ) (es : List (ℕ × List ℕ)) (bytes : List ℕ) → (lookup (nat_eq at) es ≡ None → Contains es (at, bytes) → ⊥) → (t : Bool) → nat_eq at e.0 ≡ t → cond t (Some e.1) (lookup (nat_eq at) es) ≡ None → (e ≡ (at, bytes)) ⊎ Contains es (at, bytes) → ⊥
absent_step at e es bytes rest true same h d = some_none e.1 h
absent_step at e es bytes rest false apart h (inl is) = never (sym apart ∙ ap (λ (x : ℕ × List ℕ). nat_eq at x.0) is ∙ nat_eq_equiv.refl at)
absent_step at e es bytes rest false apart h (inr later) = rest h later

absent : (at : ℕ) (es : List (ℕ × List ℕ)) → lookup (nat_eq at) es ≡ None → (bytes : List ℕ) → Contains es (at, bytes) → ⊥
absent at [] none bytes c = Contains-nil (at, bytes) c
absent at (e ∷ es) none bytes c = absent_step at e es bytes (λ h d. absent at es h bytes d) (nat_eq at e.0) refl none (Contains-cons e es (at, bytes) c)

-- after a block was listed that was not
pub listed : {T E : Type 0} (r : Result T E) (mid target new : LruCache ℕ (List ℕ)) (at : ℕ) (block : List ℕ) → mid ≡ target → OnOk r (new ≡ lru_cache (put_entries nat_eq mid at block) mid.cap) → OnErr r (new ≡ mid)
    → (new ≡ lru_cache (put_entries nat_eq target at block) target.cap) ⊎ (new ≡ target)
listed (Ok x) mid target new at block is ok err = inl (ok ∙ ap (λ (l : LruCache ℕ (List ℕ)). lru_cache (put_entries nat_eq l at block) l.cap) is)
listed (Err x) mid target new at block is ok err = inr (err ∙ is)

pub alone : (old mid new : LruCache ℕ (List ℕ)) (at : ℕ) (block : List ℕ) → IsDistinct nat_eq (keys_of old.entries) → mid ≡ lru_cache (remove_entry (nat_eq at) old.entries) old.cap
    → (new ≡ lru_cache (put_entries nat_eq mid at block) mid.cap) ⊎ (new ≡ mid) → (bytes : List ℕ) → Contains new.entries (at, bytes) → bytes ≡ block
alone old mid new at block once is either bytes c = ⊎_elim
    (λ e. ⊎_elim
    (λ before. absurd (absent at mid.entries none bytes before))
    (λ put. put.0)
    (Contains-put_entries nat_eq mid at block (at, bytes) (subst (λ (l : LruCache ℕ (List ℕ)). Contains l.entries (at, bytes)) e c)))
    (λ e. absurd (absent at mid.entries none bytes (subst (λ (l : LruCache ℕ (List ℕ)). Contains l.entries (at, bytes)) e c)))
    either
  where
    none : lookup (nat_eq at) mid.entries ≡ None
    none = ap (λ (l : LruCache ℕ (List ℕ)). lookup (nat_eq at) l.entries) is ∙ gone at old.entries once
