-- Lines that differ, found by the ids and the names that were seen before them.
use Rattle.std.proofs.Common.{◌≡◌, refl, sym, ap, ◌∙◌, ℕ, List, [], ◌∷◌, Bool, true, false, not, cond}
use Rattle.std.specs.Prelude.{◌&&◌, ◌||◌}
use Rattle.std.specs.List.{list_all}
use Rattle.std.specs.Str.{bytes_eq}
use Rattle.fo_users.specs.declared.table.User.{User}
use Rattle.fo_users.specs.Table.{is_apart, all_differ}

-- the lines differ from what was seen, and from those before them
abbrev pub differ_from : (List ℕ → Bool) → (List ℕ → Bool) → List User → Bool
differ_from ids names [] = true
differ_from ids names (u ∷ us) = (not (ids u.id) && not (names u.name)) && differ_from (λ q. bytes_eq u.id q || ids q) (λ q. bytes_eq u.name q || names q) us

abbrev is_new : (List ℕ → Bool) → (List ℕ → Bool) → User → Bool
is_new ids names u = not (ids u.id) && not (names u.name)

both_new : (e a f b : Bool) → (not (e || a) && not (f || b)) ≡ ((not a && not b) && (not e && not f))
both_new true true f b = refl
both_new true false f true = refl
both_new true false f false = refl
both_new false true f b = refl
both_new false false true true = refl
both_new false false true false = refl
both_new false false false true = refl
both_new false false false false = refl

regroup : (p l s d : Bool) → (p && ((l && s) && d)) ≡ ((p && l) && (s && d))
regroup true true s d = refl
regroup true false s d = refl
regroup false l s d = refl

swap : (p a l s : Bool) → ((p && a) && (l && s)) ≡ ((p && l) && (a && s))
swap true true l s = refl
swap true false true s = refl
swap true false false s = refl
swap false a l s = refl

all_both : (r p a : User → Bool) → ((u : User) → r u ≡ (p u && a u)) → (us : List User) → list_all r us ≡ (list_all p us && list_all a us)
all_both r p a e [] = refl
all_both r p a e (u ∷ us) = (λ k. e u k && all_both r p a e us k) ∙ swap (p u) (a u) (list_all p us) (list_all a us)

differ_is : (ids names : List ℕ → Bool) (us : List User) → differ_from ids names us ≡ (list_all (is_new ids names) us && all_differ us)
differ_is ids names [] = refl
differ_is ids names (u ∷ us) =
    let rest = differ_is (λ q. bytes_eq u.id q || ids q) (λ q. bytes_eq u.name q || names q) us in
    let cut = all_both (is_new (λ q. bytes_eq u.id q || ids q) (λ q. bytes_eq u.name q || names q)) (is_new ids names) (is_apart u) (λ v. both_new (bytes_eq u.id v.id) (ids v.id) (bytes_eq u.name v.name) (names v.name)) us in
    ap (λ b. is_new ids names u && b) (rest ∙ ap (λ b. b && all_differ us) cut)
    ∙ regroup (is_new ids names u) (list_all (is_new ids names) us) (list_all (is_apart u) us) (all_differ us)

none_seen : (us : List User) → list_all (is_new (λ _. false) (λ _. false)) us ≡ true
none_seen [] = refl
none_seen (u ∷ us) = none_seen us

-- where nothing was seen
pub differ_at_first : (ids names : List ℕ → Bool) (us : List User) → ((q : List ℕ) → ids q ≡ false) → ((q : List ℕ) → names q ≡ false) → differ_from ids names us ≡ all_differ us
differ_at_first ids names us i n =
    (λ k. differ_from (λ q. i q k) (λ q. n q k) us) ∙ differ_is (λ _. false) (λ _. false) us ∙ ap (λ b. b && all_differ us) (none_seen us)

-- after one more line, which was new
pub differ_more : (ids names ids' names' : List ℕ → Bool) (u : User) (us : List User) → ((q : List ℕ) → ids' q ≡ (bytes_eq u.id q || ids q)) → ((q : List ℕ) → names' q ≡ (bytes_eq u.name q || names q)) → (not (ids u.id) && not (names u.name)) ≡ true → differ_from ids' names' us ≡ differ_from ids names (u ∷ us)
differ_more ids names ids' names' u us i n new =
    (λ k. differ_from (λ q. i q k) (λ q. n q k) us) ∙ sym_at
  where
    sym_at : differ_from (λ q. bytes_eq u.id q || ids q) (λ q. bytes_eq u.name q || names q) us ≡ differ_from ids names (u ∷ us)
    sym_at = ap (λ b. b && differ_from (λ q. bytes_eq u.id q || ids q) (λ q. bytes_eq u.name q || names q) us) (sym new)

-- at a line that isn't new
pub differ_not : (ids names : List ℕ → Bool) (u : User) (us : List User) → (not (ids u.id) && not (names u.name)) ≡ false → differ_from ids names (u ∷ us) ≡ false
differ_not ids names u us e = ap (λ b. b && differ_from (λ q. bytes_eq u.id q || ids q) (λ q. bytes_eq u.name q || names q) us) e

pub cond_or : (b x : Bool) → cond b true x ≡ (b || x)
cond_or true x = refl
cond_or false x = refl
