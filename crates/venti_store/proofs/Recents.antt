-- The blocks that were put last.
use Rattle.std.proofs.Common.{◌≡◌, ⊎_elim, ℕ, ◌-◌, ◌<◌, ◌≤◌, Bool, true, false, List, [], ◌∷◌, ◌++◌, length, get_or, drop, refl, sym, ◌∙◌, ap, subst, arith}
use Rattle.std.specs.Prelude.{cond, not, ◌==◌, nat_lt, map, Option, Some, None, position}
use Rattle.std.specs.List.{All, Contains, filter, position_or_len}
use Rattle.std.proofs.lemmas.Bool.{cases_lt}
use Rattle.std.proofs.lemmas.Bool.Decides.{Decides-eqb, Decides-ltb}
use Rattle.std.proofs.lemmas.Option.{cond_some}
use Rattle.std.proofs.lemmas.List.{get_or-map, length-map, length_push, drop-append-le, drop-map}
use Rattle.std.proofs.lemmas.List.Elements.{All-drop, All-filter, All-push, Contains-push}
use Rattle.std.proofs.lemmas.List.Sums.{prefix_len_passes, prefix_len_stops}
use Rattle.fo_image.specs.declared.types.ArenaLine.{ArenaLine}
use Rattle.venti_store.specs.Held.{stored_at}
use Rattle.venti_store.specs.Recent.{is_another, latest}
use Rattle.venti_store.specs.Kept.{AreRecalled}
use Rattle.venti_store.specs.Arena.{without}
use Rattle.venti_store.specs.declared.recent.Recalled.{Recalled}

-- ---- their places

kept_place : (b : Bool) (r : Recalled) (rs : List Recalled) → map (λ (r : Recalled). r.place) (cond b (r ∷ rs) rs) ≡ cond b (r.place ∷ map (λ (r : Recalled). r.place) rs) (map (λ (r : Recalled). r.place) rs)
kept_place true r rs = refl
kept_place false r rs = refl

places_but : (place : ℕ) (rs : List Recalled) → map (λ (r : Recalled). r.place) (filter (is_another place) rs) ≡ without place (map (λ (r : Recalled). r.place) rs)
places_but place [] = refl
places_but place (r ∷ rs) = kept_place (not (r.place == place)) r (filter (is_another place) rs) ∙ ap (λ (ps : List ℕ). cond (not (r.place == place)) (r.place ∷ ps) ps) (places_but place rs)

places_push : (rs : List Recalled) (r : Recalled) → map (λ (r : Recalled). r.place) (rs ++ r ∷ []) ≡ map (λ (r : Recalled). r.place) rs ++ r.place ∷ []
places_push [] r = refl
places_push (x ∷ rs) r = ap (λ (ps : List ℕ). x.place ∷ ps) (places_push rs r)

places_latest : (most : ℕ) (rs : List Recalled) → map (λ (r : Recalled). r.place) (latest most rs) ≡ latest most (map (λ (r : Recalled). r.place) rs)
places_latest most rs =
    sym (drop-map (λ (r : Recalled). r.place) (length rs - most) rs)
    ∙ ap (λ (n : ℕ). drop (n - most) (map (λ (r : Recalled). r.place) rs)) (sym (length-map rs (λ (r : Recalled). r.place)))

-- the places after a block was put
pub places_after : (rs now : List Recalled) (r : Recalled) → now ≡ latest 16 (filter (is_another r.place) rs ++ r ∷ []) → map (λ (r : Recalled). r.place) now ≡ latest 16 (without r.place (map (λ (r : Recalled). r.place) rs) ++ r.place ∷ [])
places_after rs now r is =
    ap (map (λ (r : Recalled). r.place)) is
    ∙ places_latest 16 (filter (is_another r.place) rs ++ r ∷ [])
    ∙ ap (latest 16) (places_push (filter (is_another r.place) rs) r ∙ ap (λ (ps : List ℕ). ps ++ r.place ∷ []) (places_but r.place rs))

-- the last of the latest
pub has_last : (ps : List ℕ) (p : ℕ) → Contains (latest 16 (ps ++ p ∷ [])) p
has_last ps p =
    let n = length (ps ++ p ∷ []) - 16 in
    let le : n ≤ length ps = omega (arith, length_push ps p) in
    subst (λ (qs : List ℕ). Contains qs p) (sym (drop-append-le n ps (p ∷ []) le)) (Contains-push (drop n ps) p)

-- ---- what is added

-- one more than fits
pub latest_full : {X : Type 0} (xs : List X) (x : X) → length xs ≡ 16 → latest 16 (xs ++ x ∷ []) ≡ drop 1 xs ++ x ∷ []
latest_full xs x is =
    let one : length (xs ++ x ∷ []) - 16 ≡ 1 = omega (arith, is, length_push xs x) in
    ap (λ (n : ℕ). drop n (xs ++ x ∷ [])) one ∙ drop-append-le 1 xs (x ∷ []) (omega (arith, is))

pub latest_few : {X : Type 0} (xs : List X) (x : X) → length xs < 16 → latest 16 (xs ++ x ∷ []) ≡ xs ++ x ∷ []
latest_few xs x lt =
    let none : length (xs ++ x ∷ []) - 16 ≡ 0 = omega (arith, lt, length_push xs x) in
    ap (λ (n : ℕ). drop n (xs ++ x ∷ [])) none

pub fit_more : (rs : List Recalled) (r : Recalled) → All (λ (r : Recalled). length r.bytes.items ≤ 8192) rs → length r.bytes.items ≤ 8192 → All (λ (r : Recalled). length r.bytes.items ≤ 8192) (rs ++ r ∷ [])
fit_more rs r h le = All-push (λ (r : Recalled). length r.bytes.items ≤ 8192) rs r h le

pub fit_but : (place : ℕ) (rs : List Recalled) → All (λ (r : Recalled). length r.bytes.items ≤ 8192) rs → All (λ (r : Recalled). length r.bytes.items ≤ 8192) (filter (is_another place) rs)
fit_but place rs h = All-filter (is_another place) (λ (r : Recalled). length r.bytes.items ≤ 8192) rs h

-- their bytes after a block was put that is held
pub recalls_after : (lines : List ArenaLine) (stored : List (List ℕ)) (rs now : List Recalled) (r : Recalled) → now ≡ latest 16 (filter (is_another r.place) rs ++ r ∷ []) → AreRecalled lines stored rs → r.place < length lines → r.bytes.items ≡ stored_at stored r.place → AreRecalled lines stored now
recalls_after lines stored rs now r is h lt bytes =
    let P : Recalled → Type 0 = λ (r : Recalled). (r.place < length lines) × (r.bytes.items ≡ stored_at stored r.place) in
    subst (All P) (sym is) (All-drop P (length (filter (is_another r.place) rs ++ r ∷ []) - 16) (filter (is_another r.place) rs ++ r ∷ [])
    (All-push P (filter (is_another r.place) rs) r (All-filter (is_another r.place) P rs h) (lt, bytes)))

-- ---- where a place is among them

yes : {X : Type 0} (p : X → Bool) (x : X) → not (p x) ≡ false → p x ≡ true
yes p x is = by (p x) is
  where
    by : (b : Bool) → not b ≡ false → b ≡ true
    by true e = refl
    by false e = cc

no : {X : Type 0} (p : X → Bool) (x : X) → not (p x) ≡ true → p x ≡ false
no p x is = by (p x) is
  where
    by : (b : Bool) → not b ≡ true → b ≡ false
    by true e = cc
    by false e = refl

cond_none : {X : Type 0} (b : Bool) (x : X) → cond b (Some x) None ≡ None → b ≡ false
cond_none true x e = cc
cond_none false x e = refl

pub none_is : (o : Option ℕ) → ((i : ℕ) → o ≡ Some i → ⊥) → o ≡ None
none_is None f = refl
none_is (Some i) f = absurd (f i refl)

pub found_is : (place : ℕ) (rs : List Recalled) (i : ℕ) (d : Recalled) → position (λ (r : Recalled). r.place == place) rs ≡ Some i → (i < length rs) × ((get_or rs i d).place ≡ place)
found_is place rs i d is =
    let p : Recalled → Bool = λ (r : Recalled). r.place == place in
    let n = position_or_len p rs in
    let both = cond_some (nat_lt n (length rs)) n i is in
    let lt : n < length rs = (Decides-ltb n (length rs)).0 both.0 in
    let stops = prefix_len_stops (λ (r : Recalled). not (p r)) rs d lt in
    let here : (get_or rs n d).place ≡ place = (Decides-eqb (get_or rs n d).place place).0 (yes p (get_or rs n d) stops) in
    subst (λ (k : ℕ). (k < length rs) × ((get_or rs k d).place ≡ place)) both.1 (lt, here)

pub not_found : (place : ℕ) (rs : List Recalled) → position (λ (r : Recalled). r.place == place) rs ≡ None → Contains (map (λ (r : Recalled). r.place) rs) place → ⊥
not_found place [] is (k, lt, e) = omega (arith, lt)
not_found place (d ∷ rest) is (k, lt, e) =
    let p : Recalled → Bool = λ (r : Recalled). r.place == place in
    let rs = d ∷ rest in
    let n = position_or_len p rs in
    let none = cond_none (nat_lt n (length rs)) n is in
    let inside : k < length rs = omega (arith, lt, length-map rs (λ (r : Recalled). r.place)) in
    let same : (get_or rs k d).place ≡ place = sym (get_or-map (λ (r : Recalled). r.place) rs k d place inside) ∙ e in
    let equal : p (get_or rs k d) ≡ true = (Decides-eqb (get_or rs k d).place place).1 same in
    ⊎_elim
    (λ before. let less : nat_lt n (length rs) ≡ true = (Decides-ltb n (length rs)).1 before in clash less none)
    (λ behind. clash equal (no p (get_or rs k d) (prefix_len_passes (λ (r : Recalled). not (p r)) rs k d (omega (arith, inside, behind)))))
    (cases_lt n (length rs))
  where
    clash : {b : Bool} → b ≡ true → b ≡ false → ⊥
    clash one other = let bad : true ≡ false = sym one ∙ other in cc

-- the bytes of a place that is found
pub found_bytes : (lines : List ArenaLine) (stored : List (List ℕ)) (place : ℕ) (rs : List Recalled) (i : ℕ) (d : Recalled) → position (λ (r : Recalled). r.place == place) rs ≡ Some i → AreRecalled lines stored rs → (get_or rs i d).bytes.items ≡ stored_at stored place
found_bytes lines stored place rs i d is all =
    let f = found_is place rs i d is in
    (all i d f.0).1 ∙ ap (stored_at stored) f.1

pub found_fits : (place : ℕ) (rs : List Recalled) (i : ℕ) (d : Recalled) → position (λ (r : Recalled). r.place == place) rs ≡ Some i → All (λ (r : Recalled). length r.bytes.items ≤ 8192) rs → length (get_or rs i d).bytes.items ≤ 8192
found_fits place rs i d is all = all i d (found_is place rs i d is).0
