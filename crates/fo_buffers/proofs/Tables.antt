-- A hash map with numbers as keys, seen as a finite map.
use Rattle.std.proofs.Common.{◌≡◌, ℕ, cond, List, [], ◌∷◌, nat_eq, Some, None, refl, sym, ap, ◌∙◌}
use Rattle.std.specs.Ordering.{nat_cmp, eq_by_cmp}
use Rattle.std.specs.Cmp.{nat_cmp_total, unsigned_tied, nat_eq_equiv}
use Rattle.std.specs.Map.{lookup}
use Rattle.std.specs.FinMap.{get, find, insert, remove, from_entries, get-from_entries, get-insert, get-remove, same_map, nat_cmp-IsAntisymmetric}

find_lookup : {X : Type 0} (q : ℕ) (es : List (ℕ × X)) → find nat_cmp q es ≡ lookup (nat_eq q) es
find_lookup q [] = refl
find_lookup q (e ∷ es) =
    ap (λ b. cond b (Some e.1) (find nat_cmp q es)) (unsigned_tied q e.0) ∙ ap (cond (nat_eq q e.0) (Some e.1)) (find_lookup q es)

pub get_table : {X : Type 0} (es : List (ℕ × X)) (q : ℕ) → get (from_entries {R = nat_cmp} es) q ≡ lookup (nat_eq q) es
get_table es q = get-from_entries nat_cmp_total es q ∙ find_lookup q es

pub same_table : {X : Type 0} (es fs : List (ℕ × X)) → ((q : ℕ) → lookup (nat_eq q) fs ≡ lookup (nat_eq q) es) → from_entries {R = nat_cmp} fs ≡ from_entries {R = nat_cmp} es
same_table es fs same = same_map nat_cmp_total nat_cmp-IsAntisymmetric _ _ (λ q. get_table fs q ∙ same q ∙ sym (get_table es q))

-- the same tests, the other way round
turned : (a b : ℕ) → nat_eq a b ≡ nat_eq b a
turned = nat_eq_equiv.symm

pub put_table : {X : Type 0} (es fs : List (ℕ × X)) (k : ℕ) (v : X) → ((q : ℕ) → lookup (nat_eq q) fs ≡ cond (nat_eq k q) (Some v) (lookup (nat_eq q) es)) → from_entries {R = nat_cmp} fs ≡ insert (from_entries {R = nat_cmp} es) k v
put_table es fs k v is =
    same_map nat_cmp_total nat_cmp-IsAntisymmetric _ _
    (λ q. get_table fs q ∙ is q ∙ ap (λ b. cond b (Some v) (lookup (nat_eq q) es)) (turned k q ∙ sym (unsigned_tied q k)) ∙ ap (cond (eq_by_cmp nat_cmp q k) (Some v)) (sym (get_table es q)) ∙ sym (get-insert nat_cmp_total (from_entries es) k v q))

pub cut_table : {X : Type 0} (es fs : List (ℕ × X)) (k : ℕ) → ((q : ℕ) → lookup (nat_eq q) fs ≡ cond (nat_eq k q) None (lookup (nat_eq q) es)) → from_entries {R = nat_cmp} fs ≡ remove (from_entries {R = nat_cmp} es) k
cut_table es fs k is =
    same_map nat_cmp_total nat_cmp-IsAntisymmetric _ _
    (λ q. get_table fs q ∙ is q ∙ ap (λ b. cond b None (lookup (nat_eq q) es)) (turned k q ∙ sym (unsigned_tied q k)) ∙ ap (cond (eq_by_cmp nat_cmp q k) None) (sym (get_table es q)) ∙ sym (get-remove nat_cmp_total (from_entries es) k q))
