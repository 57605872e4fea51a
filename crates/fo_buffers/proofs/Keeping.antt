-- What steps over the table of buffers leave.
use Rattle.std.proofs.Common.{◌≡◌, ◌⊎◌, ℕ, Bool, true, false, cond, List, [], ◌∷◌, ◌++◌, nat_eq, Option, Some, None, Result, Ok, Err, is_some, Contains, ◌-◌, refl, sym, ap, subst, inl, inr, ◌∙◌, eqb-true}
use Rattle.std.proofs.lemmas.List.Elements.{Contains-append_left, Contains-push, Contains-push_cases}
use Rattle.std.specs.Cmp.{nat_eq_equiv}
use Rattle.std.specs.Option.{option_map, option_map_or, MatchOption}
use Rattle.std.specs.Ordering.{nat_cmp}
use Rattle.std.specs.Map.{lookup, remove_entry}
use Rattle.std.specs.HashMap.{HashMap, get, Updates, IsUnchanged}
use Rattle.lru.specs.LruCache.{LruCache, lru_cache, put_entries}
use Rattle.std.specs.Result.{OnErr}
use Rattle.std.specs.FinMap.{FinMap, from_entries, insert, remove}
use Rattle.std.specs.FinMap.{get as get_in}
use Rattle.fo_buffers.specs.declared.block.Buffer.{Buffer}
use Rattle.fo_buffers.specs.Held.{Held, held_at, put, unlisted, used, updated, is_pinned, itself, pinned_as, IsPinned}
use Rattle.fo_buffers.specs.Tables.{Changes, Listed}
use Rattle.fo_buffers.proofs.Tables.{get_table, put_table, cut_table, same_table}

-- the finite map that a table is
abbrev pub table : {S : Type 0} → HashMap ℕ Buffer S → FinMap nat_cmp Buffer
table m = from_entries m.entries

same_some : (x y : Buffer) → Some x ≡ Some y → x ≡ y
same_some x y e = cc

pinned_found : (f : Buffer → Buffer) → ((x : Buffer) → (f x).pinned ≡ true → x.pinned ≡ true) → (b : Buffer) (o : Option Buffer) → option_map f o ≡ Some b → b.pinned ≡ true → (x : Buffer) × (o ≡ Some x) × (x.pinned ≡ true)
pinned_found f keeps b None is p = cc
pinned_found f keeps b (Some x) is p = (x, refl, keeps x (ap (λ (y : Buffer). y.pinned) (same_some (f x) b is) ∙ p))

module _ {S : Type 0} where
  by_found : (m n : HashMap ℕ Buffer S) (at : ℕ) (f : Buffer → Buffer) (o : Option Buffer) → get nat_eq m at ≡ o → ((q : ℕ) → get nat_eq n q ≡ cond (nat_eq at q) (option_map f o) (get nat_eq m q)) → table n ≡ option_map_or (λ b. insert (table m) at (f b)) o (table m)
  by_found m n at f None is each = same_table m.entries n.entries (λ q. each q ∙ missing q (nat_eq at q) refl)
    where
      missing : (q : ℕ) (e : Bool) → nat_eq at q ≡ e → cond e None (get nat_eq m q) ≡ get nat_eq m q
      missing q true same = sym is ∙ ap (get nat_eq m) (eqb-true at q same)
      missing q false same = refl
  by_found m n at f (Some b) is each = put_table m.entries n.entries at (f b) each

  -- a changed block, as a step of the model
  pub updated_table : (m n : HashMap ℕ Buffer S) (at : ℕ) (f : Buffer → Buffer) → Changes m n at f → table n ≡ option_map_or (λ b. insert (table m) at (f b)) (get_in (table m) at) (table m)
  updated_table m n at f c =
      subst (λ (o : Option Buffer). table n ≡ option_map_or (λ b. insert (table m) at (f b)) o (table m)) (sym (get_table m.entries at))
      (by_found m n at f (get nat_eq m at) refl c.each)

  -- a change that pins nothing leaves all pinned blocks listed
  pub listed_changed : (m n : HashMap ℕ Buffer S) (at : ℕ) (f : Buffer → Buffer) (pins : List ℕ) → ((x : Buffer) → (f x).pinned ≡ true → x.pinned ≡ true) → Changes m n at f → Listed m pins → Listed n pins
  listed_changed m n at f pins keeps c l = record { each = λ q b is p. by q b p (nat_eq at q) refl (sym (c.each q) ∙ is) }
    where
      by : (q : ℕ) (b : Buffer) → b.pinned ≡ true → (e : Bool) → nat_eq at q ≡ e → cond e (option_map f (get nat_eq m at)) (get nat_eq m q) ≡ Some b → Contains pins q
      by q b p true same is =
          let x = pinned_found f keeps b (get nat_eq m at) is p in
          subst (λ (k : ℕ). Contains pins k) (eqb-true at q same) (l.each at x.0 x.1 x.2)
      by q b p false same is = l.each q b is p

  -- what is held from now on is listed behind the others
  pub listed_put : (m n : HashMap ℕ Buffer S) (at : ℕ) (b : Buffer) (pins : List ℕ) → ((q : ℕ) → get nat_eq n q ≡ cond (nat_eq at q) (Some b) (get nat_eq m q)) → Listed m pins → Listed n (pins ++ at ∷ [])
  listed_put m n at b pins each l = record { each = λ q x is p. by q x p (nat_eq at q) refl (sym (each q) ∙ is) }
    where
      by : (q : ℕ) (x : Buffer) → x.pinned ≡ true → (e : Bool) → nat_eq at q ≡ e → cond e (Some b) (get nat_eq m q) ≡ Some x → Contains (pins ++ at ∷ []) q
      by q x p true same is = subst (λ (k : ℕ). Contains (pins ++ at ∷ []) k) (eqb-true at q same) (Contains-push pins at)
      by q x p false same is = Contains-append_left pins (at ∷ []) q (l.each q x is p)

  -- a block that is pinned now is listed
  pub listed_pinned : (m n : HashMap ℕ Buffer S) (at : ℕ) (pins : List ℕ) → Changes m n at (pinned_as true) → Listed m pins → Listed n (pins ++ at ∷ [])
  listed_pinned m n at pins c l = record { each = λ q x is p. by q x p (nat_eq at q) refl (sym (c.each q) ∙ is) }
    where
      by : (q : ℕ) (x : Buffer) → x.pinned ≡ true → (e : Bool) → nat_eq at q ≡ e → cond e (option_map (pinned_as true) (get nat_eq m at)) (get nat_eq m q) ≡ Some x → Contains (pins ++ at ∷ []) q
      by q x p true same is = subst (λ (k : ℕ). Contains (pins ++ at ∷ []) k) (eqb-true at q same) (Contains-push pins at)
      by q x p false same is = Contains-append_left pins (at ∷ []) q (l.each q x is p)

  -- fewer blocks
  pub listed_cut : (m n : HashMap ℕ Buffer S) (at : ℕ) (pins : List ℕ) → ((q : ℕ) → get nat_eq n q ≡ cond (nat_eq at q) None (get nat_eq m q)) → Listed m pins → Listed n pins
  listed_cut m n at pins each l = record { each = λ q x is p. by q x p (nat_eq at q) refl (sym (each q) ∙ is) }
    where
      by : (q : ℕ) (x : Buffer) → x.pinned ≡ true → (e : Bool) → nat_eq at q ≡ e → cond e None (get nat_eq m q) ≡ Some x → Contains pins q
      by q x p true same is = absurd (none_some is)
        where
          none_some : None ≡ Some x → ⊥
          none_some e = cc
      by q x p false same is = l.each q x is p

  -- where what is held of a block is put back, the table stays
  pub same_changed : (m n : HashMap ℕ Buffer S) (at : ℕ) → Changes m n at itself → (q : ℕ) → get nat_eq n q ≡ get nat_eq m q
  same_changed m n at c q = c.each q ∙ by (nat_eq at q) refl
    where
      mapped : (o : Option Buffer) → option_map itself o ≡ o
      mapped None = refl
      mapped (Some b) = refl

      by : (e : Bool) → nat_eq at q ≡ e → cond e (option_map itself (get nat_eq m at)) (get nat_eq m q) ≡ get nat_eq m q
      by true same = mapped (get nat_eq m at) ∙ ap (get nat_eq m) (eqb-true at q same)
      by false same = refl

  -- the same blocks
  pub listed_same : (m n : HashMap ℕ Buffer S) (pins : List ℕ) → ((q : ℕ) → get nat_eq n q ≡ get nat_eq m q) → Listed m pins → Listed n pins
  listed_same m n pins each l = record { each = λ q x is p. l.each q x (sym (each q) ∙ is) p }

  -- where the block at the end of the pins isn't pinned, the others are listed without it
  pub listed_front : (m n : HashMap ℕ Buffer S) (pins : List ℕ) (at : ℕ) → n.entries ≡ m.entries → option_map_or is_pinned (get nat_eq m at) false ≡ false → Listed m (pins ++ at ∷ []) → Listed n pins
  listed_front m n pins at same free l =
      listed_same m n pins (λ q. ap (lookup (nat_eq q)) same)
      (record { each = λ q x is p. by q x is p (Contains-push_cases pins at q (l.each q x is p)) })
    where
      by : (q : ℕ) (x : Buffer) → get nat_eq m q ≡ Some x → x.pinned ≡ true → Contains pins q ⊎ (at ≡ q) → Contains pins q
      by q x is p (inl c) = c
      by q x is p (inr e) = absurd (clash (sym p ∙ sym (ap (λ (o : Option Buffer). option_map_or is_pinned o false) is) ∙ ap (λ (k : ℕ). option_map_or is_pinned (get nat_eq m k) false) (sym e) ∙ free))
        where
          clash : true ≡ false → ⊥
          clash h = cc

  -- after the last pin was unpinned, the others are listed without it
  pub listed_unpinned : (m n : HashMap ℕ Buffer S) (pins : List ℕ) (at : ℕ) (f : Buffer → Buffer) → ((x : Buffer) → (f x).pinned ≡ false) → Changes m n at f → Listed m (pins ++ at ∷ []) → Listed n pins
  listed_unpinned m n pins at f off c l = record { each = λ q b is p. by q b p (nat_eq at q) refl (sym (c.each q) ∙ is) }
    where
      never : (b : Buffer) (o : Option Buffer) → option_map f o ≡ Some b → b.pinned ≡ true → ⊥
      never b None is p = cc
      never b (Some x) is p = clash (sym p ∙ sym (ap (λ (y : Buffer). y.pinned) (same_some (f x) b is)) ∙ off x)
        where
          clash : true ≡ false → ⊥
          clash h = cc

      by : (q : ℕ) (b : Buffer) → b.pinned ≡ true → (e : Bool) → nat_eq at q ≡ e → cond e (option_map f (get nat_eq m at)) (get nat_eq m q) ≡ Some b → Contains pins q
      by q b p true same is = absurd (never b (get nat_eq m at) is p)
      by q b p false same is = among (Contains-push_cases pins at q (l.each q b is p))
        where
          among : Contains pins q ⊎ (at ≡ q) → Contains pins q
          among (inl there) = there
          among (inr e) = absurd (apart (sym same ∙ ap (nat_eq at) (sym e) ∙ here at))
            where
              apart : false ≡ true → ⊥
              apart h = cc

              here : (k : ℕ) → nat_eq k k ≡ true
              here k = nat_eq_equiv.refl k

-- what is held, as a record
abbrev pub view3 : FinMap nat_cmp Buffer → List (ℕ × List ℕ) → ℕ → Held
view3 held clean room = record { held = held; clean = clean; room = room }

module _ {S : Type 0} (m n : HashMap ℕ Buffer S) (at : ℕ) (clean : List (ℕ × List ℕ)) (room : ℕ) where
  pub view_updated : (f : Buffer → Buffer) → Changes m n at f → view3 (table n) clean room ≡ updated (view3 (table m) clean room) at f
  view_updated f c = by (get_in (table m) at) (updated_table m n at f c)
    where
      by : (o : Option Buffer) → table n ≡ option_map_or (λ b. insert (table m) at (f b)) o (table m) → view3 (table n) clean room ≡ option_map_or (λ b. view3 (insert (table m) at (f b)) clean room) o (view3 (table m) clean room)
      by None e = ap (λ (t : FinMap nat_cmp Buffer). view3 t clean room) e
      by (Some b) e = ap (λ (t : FinMap nat_cmp Buffer). view3 t clean room) e

  pub view_put : (b : Buffer) → Updates nat_eq m n at (Some b) → view3 (table n) (remove_entry (nat_eq at) clean) (room - 1) ≡ used (put (unlisted (view3 (table m) clean room) at) at b)
  view_put b u = ap (λ (t : FinMap nat_cmp Buffer). view3 t (remove_entry (nat_eq at) clean) (room - 1)) (put_table m.entries n.entries at b u.0)

  pub view_cut : (clean' : List (ℕ × List ℕ)) → Updates nat_eq m n at None → view3 (table n) clean' room ≡ view3 (remove (table m) at) clean' room
  view_cut clean' u = ap (λ (t : FinMap nat_cmp Buffer). view3 t clean' room) (cut_table m.entries n.entries at u.0)

-- what is held, as the table has it
pub held_is : {S : Type 0} (m : HashMap ℕ Buffer S) (clean : List (ℕ × List ℕ)) (room : ℕ) (h : Held) → view3 (table m) clean room ≡ h → (at : ℕ) → get nat_eq m at ≡ held_at h at
held_is m clean room h is at = sym (get_table m.entries at) ∙ ap (λ (x : Held). held_at x at) is

pub none_is : (o : Option Buffer) → is_some o ≡ false → o ≡ None
none_is None e = refl
none_is (Some b) e = absurd (clash e)
  where
    clash : true ≡ false → ⊥
    clash h = cc

pub never : {A : Type 0} → true ≡ false → A
never e = absurd (clash e)
  where
    clash : true ≡ false → ⊥
    clash h = cc

pub on_err : {T E P : Type 0} (r : Result T E) → P → OnErr r P
on_err (Ok x) p = tt
on_err (Err e) p = p

-- what a release leaves
pub view_released : {S : Type 0} (m n : HashMap ℕ Buffer S) (at : ℕ) (block : List ℕ) (clean new : LruCache ℕ (List ℕ)) (room : ℕ) → Updates nat_eq m n at None → clean.cap ≡ 1024 → (new ≡ lru_cache (put_entries nat_eq clean at block) clean.cap) ⊎ (new ≡ clean)
    → (view3 (table n) new.entries room ≡ view3 (remove (table m) at) (put_entries nat_eq (lru_cache clean.entries 1024) at block) room) ⊎ (view3 (table n) new.entries room ≡ view3 (remove (table m) at) clean.entries room)
view_released m n at block clean new room u few (inl e) =
    inl (view_cut m n at clean.entries room new.entries u ∙ ap (λ (l : LruCache ℕ (List ℕ)). view3 (remove (table m) at) l.entries room) e
    ∙ ap (λ (cap : ℕ). view3 (remove (table m) at) (put_entries nat_eq (lru_cache clean.entries cap) at block) room) few)
view_released m n at block clean new room u few (inr e) =
    inr (view_cut m n at clean.entries room new.entries u ∙ ap (λ (l : LruCache ℕ (List ℕ)). view3 (remove (table m) at) l.entries room) e)

-- what the answer of the table says of the model
pub view_unpinned : {S : Type 0} (m n : HashMap ℕ Buffer S) (clean : List (ℕ × List ℕ)) (room : ℕ) (o : Option ℕ)
    → MatchOption o (IsUnchanged m n × ((q : ℕ) → option_map_or is_pinned (get nat_eq m q) false ≡ true → ⊥)) (λ at. Changes m n at (pinned_as false) × (option_map_or is_pinned (get nat_eq m at) false ≡ true))
    → MatchOption o ((view3 (table n) clean room ≡ view3 (table m) clean room) × ((q : ℕ) → IsPinned (view3 (table m) clean room) q → ⊥))
    (λ at. IsPinned (view3 (table m) clean room) at × (view3 (table n) clean room ≡ updated (view3 (table m) clean room) at (pinned_as false)))
view_unpinned m n clean room None c = (
  ap (λ (es : List (ℕ × Buffer)). view3 (from_entries es) clean room) c.0,
  λ q p. c.1 q (sym (ap (λ (o : Option Buffer). option_map_or is_pinned o false) (get_table m.entries q)) ∙ p.is),
)
view_unpinned m n clean room (Some at) c =
    (record { is = ap (λ (o : Option Buffer). option_map_or is_pinned o false) (get_table m.entries at) ∙ c.1 }, view_updated m n at clean room (pinned_as false) c.0)

-- a pinned block is among the pins
pub pinned_listed : {S : Type 0} (m : HashMap ℕ Buffer S) (pins : List ℕ) (q : ℕ) (o : Option Buffer) → Listed m pins → get nat_eq m q ≡ o → option_map_or is_pinned o false ≡ true → Contains pins q
pinned_listed m pins q (Some b) listed is pinned = listed.each q b is pinned
pinned_listed m pins q None listed is pinned = cc
