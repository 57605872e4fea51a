-- Changes of a tree, and of the pairs that a directory keeps.
use Rattle.std.proofs.Common.{◌≡◌, refl, sym, ap, ◌∙◌, ℕ, zero, suc, ◌+◌, ◌<◌, ◌≤◌, List, [], ◌∷◌, length, take, drop, ◌-◌, get_or, set, Bool, true, false, not, cond, nat_eq, Option, Some, None, arith, if◌then◌else◌}
use Rattle.std.proofs.lemmas.List.{take_all, set-get_or}
use Rattle.std.specs.List.{insert, remove, position_or_len}
use Rattle.std.specs.Str.{bytes_eq}
use Rattle.fo_world.specs.declared.tree.Node.{Node}
use Rattle.fo_world.specs.declared.tree.Body.{Body}
use Rattle.fo_world.specs.declared.tree.Body.TheVariants.{File, Dir}
use Rattle.fo_world.specs.Names.{Stat, Names}
use Rattle.fo_world.specs.Tree.{stat_of, node_of, and_body, and_node, names_of, first, named, change_first, change_names, change_along, put_name, without, rename, rename_found, comes_before, name_count}
use Rattle.fo_world.specs.Step.{is_above, next_above}
use Rattle.fo_world.specs.Places.{place_numbered, place_named, place_for, place_above, renamed_at}

change_first-and_body : (k : ℕ) (f : Node → Node) (name : List ℕ) (stat : Stat) (body : Body) (rest : Names) → change_first k f (and_body name stat body rest) ≡ (if nat_eq stat.number k then and_node name (f (node_of stat body)) rest else and_body name stat body (change_first k f rest))
change_first-and_body k f name stat (File bytes) rest = refl
change_first-and_body k f name stat (Dir inside) rest = refl

-- the first file with the number is changed at its place
pub change_first-set : (k : ℕ) (f : Node → Node) (es : List (List ℕ × Node)) (d : List ℕ × Node) (i : ℕ) → i ≡ place_numbered k es → i < length es → change_first k f (names_of es) ≡ names_of (set es i ((get_or es i d).0, f (get_or es i d).1))
change_first-set k f [] d i e l = absurd (omega arith)
change_first-set k f (p ∷ ps) d zero e l = change_first-and_body k f p.0 (stat_of p.1) p.1.body (names_of ps) ∙ go (nat_eq p.1.number k) e
  where
    go : (b : Bool) → 0 ≡ cond (not b) (1 + place_numbered k ps) 0 → (if b then and_node p.0 (f p.1) (names_of ps) else and_node p.0 p.1 (change_first k f (names_of ps))) ≡ and_node p.0 (f p.1) (names_of ps)
    go true e = refl
    go false e = absurd (omega arith)
change_first-set k f (p ∷ ps) d (suc i) e l = change_first-and_body k f p.0 (stat_of p.1) p.1.body (names_of ps) ∙ go (nat_eq p.1.number k) (change_first-set k f ps d i) e
  where
    go : (b : Bool) → (i ≡ place_numbered k ps → i < length ps → change_first k f (names_of ps) ≡ names_of (set ps i ((get_or ps i d).0, f (get_or ps i d).1)))
        → suc i ≡ cond (not b) (1 + place_numbered k ps) 0 → (if b then and_node p.0 (f p.1) (names_of ps) else and_node p.0 p.1 (change_first k f (names_of ps))) ≡ and_node p.0 p.1 (names_of (set ps i ((get_or ps i d).0, f (get_or ps i d).1)))
    go true ih e = absurd (omega arith)
    go false ih e = ap (and_node p.0 p.1) (ih (omega arith) (omega arith))

pub change_first-item : (k : ℕ) (f : Node → Node) (es : List (List ℕ × Node)) (d : List ℕ × Node) (i : ℕ) → d ≡ get_or es i d → i ≡ place_numbered k es → i < length es → names_of (set es i (d.0, f d.1)) ≡ change_first k f (names_of es)
change_first-item k f es d i is e l = ap (λ (x : List ℕ × Node). names_of (set es i (x.0, f x.1))) is ∙ sym (change_first-set k f es d i e l)

-- and nothing is, where there is none
pub change_first-none : (k : ℕ) (f : Node → Node) (es : List (List ℕ × Node)) → length es ≤ place_numbered k es → change_first k f (names_of es) ≡ names_of es
change_first-none k f [] h = refl
change_first-none k f (p ∷ ps) h = change_first-and_body k f p.0 (stat_of p.1) p.1.body (names_of ps) ∙ go (nat_eq p.1.number k) (change_first-none k f ps) h
  where
    go : (b : Bool) → (length ps ≤ place_numbered k ps → change_first k f (names_of ps) ≡ names_of ps)
        → length (p ∷ ps) ≤ cond (not b) (1 + place_numbered k ps) 0
        → (if b then and_node p.0 (f p.1) (names_of ps) else and_node p.0 p.1 (change_first k f (names_of ps))) ≡ and_node p.0 p.1 (names_of ps)
    go true ih h = absurd (omega arith)
    go false ih h = ap (and_node p.0 p.1) (ih (omega arith))

-- a trail's first step
pub change_along-step : (ks : List ℕ) (f : Node → Node) (n : Node) → 0 < length ks → record n { body = change_names (change_first (get_or ks 0 0) (change_along (take (length ks - 1) (drop 1 ks)) f)) n.body } ≡ change_along ks f n
change_along-step [] f n h = absurd (omega arith)
change_along-step (k ∷ ks) f n h = ap (λ (r : List ℕ). let m : Node = record n { body = change_names (change_first k (change_along r f)) n.body } in m) (take_all (length (k ∷ ks) - 1) ks (omega arith))

-- the same for a change that may be refused
pub change_first-item-if : (b : Bool) (k : ℕ) (f : Node → Node) (es : List (List ℕ × Node)) (d : List ℕ × Node) (i : ℕ) → d ≡ get_or es i d → i ≡ place_numbered k es → i < length es → names_of (set es i (d.0, if b then f d.1 else d.1)) ≡ (if b then change_first k f (names_of es) else names_of es)
change_first-item-if true k f es d i is e l = change_first-item k f es d i is e l
change_first-item-if false k f es d i is e l = ap (λ (x : List ℕ × Node). names_of (set es i x)) is ∙ ap names_of (set-get_or es i d)

pub change_along-step-if : (b : Bool) (ks : List ℕ) (f : Node → Node) (n : Node) → 0 < length ks → record n { body = if b then change_names (change_first (get_or ks 0 0) (change_along (take (length ks - 1) (drop 1 ks)) f)) n.body else n.body } ≡ (if b then change_along ks f n else n)
change_along-step-if true ks f n h = change_along-step ks f n h
change_along-step-if false ks f n h = refl

-- ---- a new name

put_name-and_body : (k : List ℕ) (n : Node) (name : List ℕ) (stat : Stat) (body : Body) (rest : Names) → put_name k n (and_body name stat body rest) ≡ (if comes_before k name then and_node k n (and_body name stat body rest) else and_body name stat body (put_name k n rest))
put_name-and_body k n name stat (File bytes) rest = refl
put_name-and_body k n name stat (Dir inside) rest = refl

pub put_name-insert : (k : List ℕ) (n : Node) (es : List (List ℕ × Node)) → put_name k n (names_of es) ≡ names_of (insert es (place_for k es) (k, n))
put_name-insert k n [] = refl
put_name-insert k n (p ∷ ps) = put_name-and_body k n p.0 (stat_of p.1) p.1.body (names_of ps) ∙ go (comes_before k p.0) (put_name-insert k n ps)
  where
    go : (b : Bool) → put_name k n (names_of ps) ≡ names_of (insert ps (place_for k ps) (k, n))
        → (if b then and_node k n (names_of (p ∷ ps)) else and_node p.0 p.1 (put_name k n (names_of ps))) ≡ names_of (insert (p ∷ ps) (cond (not b) (1 + place_for k ps) 0) (k, n))
    go true ih = refl
    go false ih = rw one_more (ap (and_node p.0 p.1) ih)
      where
        one_more : 1 + place_for k ps ≡ suc (place_for k ps)
        one_more = omega arith

name_count-and_body : (name : List ℕ) (stat : Stat) (body : Body) (rest : Names) → name_count (and_body name stat body rest) ≡ name_count rest + 1
name_count-and_body name stat (File bytes) rest = refl
name_count-and_body name stat (Dir inside) rest = refl

pub name_count-length : (es : List (List ℕ × Node)) → length es ≡ name_count (names_of es)
name_count-length [] = refl
name_count-length (p ∷ ps) = omega (arith, name_count-length ps, name_count-and_body p.0 (stat_of p.1) p.1.body (names_of ps))

-- ---- a name taken out

without-and_body : (k name : List ℕ) (stat : Stat) (body : Body) (rest : Names) → without k (and_body name stat body rest) ≡ (if bytes_eq name k then rest else and_body name stat body (without k rest))
without-and_body k name stat (File bytes) rest = refl
without-and_body k name stat (Dir inside) rest = refl

pub without-remove : (k : List ℕ) (es : List (List ℕ × Node)) (i : ℕ) → i ≡ place_named k es → i < length es → without k (names_of es) ≡ names_of (remove es i)
without-remove k [] i e l = absurd (omega arith)
without-remove k (p ∷ ps) zero e l = without-and_body k p.0 (stat_of p.1) p.1.body (names_of ps) ∙ go (bytes_eq p.0 k) e
  where
    go : (b : Bool) → 0 ≡ cond (not b) (1 + place_named k ps) 0 → (if b then names_of ps else and_node p.0 p.1 (without k (names_of ps))) ≡ names_of ps
    go true e = refl
    go false e = absurd (omega arith)
without-remove k (p ∷ ps) (suc i) e l = without-and_body k p.0 (stat_of p.1) p.1.body (names_of ps) ∙ go (bytes_eq p.0 k) (without-remove k ps i) e
  where
    go : (b : Bool) → (i ≡ place_named k ps → i < length ps → without k (names_of ps) ≡ names_of (remove ps i))
        → suc i ≡ cond (not b) (1 + place_named k ps) 0 → (if b then names_of ps else and_node p.0 p.1 (without k (names_of ps))) ≡ and_node p.0 p.1 (names_of (remove ps i))
    go true ih e = absurd (omega arith)
    go false ih e = ap (and_node p.0 p.1) (ih (omega arith) (omega arith))

-- nothing is, where there is none
pub without-none : (k : List ℕ) (es : List (List ℕ × Node)) → length es ≤ place_named k es → without k (names_of es) ≡ names_of es
without-none k [] h = refl
without-none k (p ∷ ps) h = without-and_body k p.0 (stat_of p.1) p.1.body (names_of ps) ∙ go (bytes_eq p.0 k) (without-none k ps) h
  where
    go : (b : Bool) → (length ps ≤ place_named k ps → without k (names_of ps) ≡ names_of ps)
        → length (p ∷ ps) ≤ cond (not b) (1 + place_named k ps) 0
        → (if b then names_of ps else and_node p.0 p.1 (without k (names_of ps))) ≡ and_node p.0 p.1 (names_of ps)
    go true ih h = absurd (omega arith)
    go false ih h = ap (and_node p.0 p.1) (ih (omega arith))

-- ---- the first that passes a test, at its place

first-and_body : (p : List ℕ → ℕ → Bool) (name : List ℕ) (stat : Stat) (body : Body) (rest : Names) → first p (and_body name stat body rest) ≡ (if p name stat.number then Some (name, node_of stat body) else first p rest)
first-and_body p name stat (File bytes) rest = refl
first-and_body p name stat (Dir inside) rest = refl

pub first-item : (p : List ℕ → ℕ → Bool) (es : List (List ℕ × Node)) (d : List ℕ × Node) (i : ℕ) → i ≡ position_or_len (λ e. p e.0 e.1.number) es → i < length es → first p (names_of es) ≡ Some (get_or es i d)
first-item p [] d i e l = absurd (omega arith)
first-item p (x ∷ xs) d zero e l = first-and_body p x.0 (stat_of x.1) x.1.body (names_of xs) ∙ go (p x.0 x.1.number) e
  where
    go : (b : Bool) → 0 ≡ cond (not b) (1 + position_or_len (λ e. p e.0 e.1.number) xs) 0 → (if b then Some x else first p (names_of xs)) ≡ Some x
    go true e = refl
    go false e = absurd (omega arith)
first-item p (x ∷ xs) d (suc i) e l = first-and_body p x.0 (stat_of x.1) x.1.body (names_of xs) ∙ go (p x.0 x.1.number) (first-item p xs d i) e
  where
    go : (b : Bool) → (i ≡ position_or_len (λ e. p e.0 e.1.number) xs → i < length xs → first p (names_of xs) ≡ Some (get_or xs i d))
        → suc i ≡ cond (not b) (1 + position_or_len (λ e. p e.0 e.1.number) xs) 0 → (if b then Some x else first p (names_of xs)) ≡ Some (get_or xs i d)
    go true ih e = absurd (omega arith)
    go false ih e = ih (omega arith) (omega arith)

pub first-none : (p : List ℕ → ℕ → Bool) (es : List (List ℕ × Node)) → length es ≤ position_or_len (λ e. p e.0 e.1.number) es → first p (names_of es) ≡ None
first-none p [] h = refl
first-none p (x ∷ xs) h = first-and_body p x.0 (stat_of x.1) x.1.body (names_of xs) ∙ go (p x.0 x.1.number) (first-none p xs) h
  where
    go : (b : Bool) → (length xs ≤ position_or_len (λ e. p e.0 e.1.number) xs → first p (names_of xs) ≡ None)
        → length (x ∷ xs) ≤ cond (not b) (1 + position_or_len (λ e. p e.0 e.1.number) xs) 0 → (if b then Some x else first p (names_of xs)) ≡ None
    go true ih h = absurd (omega arith)
    go false ih h = ih (omega arith)

pub named-item : (k : List ℕ) (es : List (List ℕ × Node)) (d : List ℕ × Node) (i : ℕ) → i ≡ place_named k es → i < length es → named k (names_of es) ≡ Some (get_or es i d)
named-item k = first-item (λ name _. bytes_eq name k)

pub named-none : (k : List ℕ) (es : List (List ℕ × Node)) → length es ≤ place_named k es → named k (names_of es) ≡ None
named-none k = first-none (λ name _. bytes_eq name k)

pub place_above-none : (es : List (List ℕ × Node)) → 0 ≡ place_above None es
place_above-none [] = refl
place_above-none (x ∷ xs) = refl

pub next_above-item : (after : Option (List ℕ)) (es : List (List ℕ × Node)) (d : List ℕ × Node) (i : ℕ) → i ≡ place_above after es → i < length es → next_above after (names_of es) ≡ Some (get_or es i d)
next_above-item after = first-item (λ name _. is_above after name)

pub next_above-none : (after : Option (List ℕ)) (es : List (List ℕ × Node)) → length es ≤ place_above after es → next_above after (names_of es) ≡ None
next_above-none after = first-none (λ name _. is_above after name)

-- ---- another name

pub rename-at : (old name : List ℕ) (f : Node → Node) (es : List (List ℕ × Node)) (d : List ℕ × Node) (i : ℕ) → i ≡ place_named old es → i < length es → rename old name f (names_of es) ≡ names_of (renamed_at es i name f d)
rename-at old name f es d i e l =
    ap (rename_found old name f (names_of es)) (named-item old es d i e l)
    ∙ ap (put_name name (f (get_or es i d).1)) (without-remove old es i e l)
    ∙ put_name-insert name (f (get_or es i d).1) (remove es i)

pub rename-at-if : (b : Bool) (old name : List ℕ) (f : Node → Node) (es : List (List ℕ × Node)) (d : List ℕ × Node) (i : ℕ) → i ≡ place_named old es → i < length es → names_of (if b then renamed_at es i name f d else es) ≡ (if b then rename old name f (names_of es) else names_of es)
rename-at-if true old name f es d i e l = sym (rename-at old name f es d i e l)
rename-at-if false old name f es d i e l = refl

pub rename-none : (old name : List ℕ) (f : Node → Node) (es : List (List ℕ × Node)) → length es ≤ place_named old es → rename old name f (names_of es) ≡ names_of es
rename-none old name f es h = ap (rename_found old name f (names_of es)) (named-none old es h)
