-- Records without the first of a name.
use Rattle.std.proofs.Common.{◌≡◌, ◌⊎◌, inl, inr, ⊎_elim, ℕ, ◌<◌, Bool, true, false, ◌||◌, List, [], ◌∷◌, ◌++◌, Contains, find, Some, slice_index_or, refl, sym, ap, ◌∙◌, subst, arith}
use Rattle.std.specs.List.{list_any}
use Rattle.std.proofs.lemmas.List.Elements.{Contains-append_left, Contains-append_right, Contains-append_cases, Contains-push}
use Rattle.fo_image.specs.declared.record.Record.{Record}
use Rattle.fo_meta.specs.Leaf.{SpellsLeaf, is_named, without}
use Rattle.fo_meta.proofs.Lists.{find-first, without-first}
use Rattle.fo_dir_put.specs.Names.{Clash}
use Rattle.fo_dir_put.specs.Differ.{Distinct}

decide : (b : Bool) → (b ≡ true) ⊎ (b ≡ false)
decide true = inl refl
decide false = inr refl

-- the first of the name, what stands before it, and what stands behind it
pub record Split (name : List ℕ) (rs : List Record) : Type 0 where
  pub before : List Record
  pub named : Record
  pub after : List Record
  pub split : rs ≡ before ++ named ∷ after
  pub unnamed : list_any (is_named name) before ≡ false
  pub is : is_named name named ≡ true

passed : (name : List ℕ) (r : Record) (rs : List Record) → is_named name r ≡ false → list_any (is_named name) (r ∷ rs) ≡ list_any (is_named name) rs
passed name r rs e = ap (λ b. b || list_any (is_named name) rs) e

pub split_at : (name : List ℕ) (rs : List Record) → list_any (is_named name) rs ≡ true → Split name rs
split_at name [] h = absurd cc
split_at name (r ∷ rs) h = ⊎_elim
    (λ e. record { before = []; named = r; after = rs; split = refl; unnamed = refl; is = e })
    (λ e. let s = split_at name rs (sym (passed name r rs e) ∙ h) in record { before = r ∷ s.before; named = s.named; after = s.after; split = ap (λ xs. r ∷ xs) s.split; unnamed = passed name r s.before e ∙ s.unnamed; is = s.is })
    (decide (is_named name r))

pub left : {name : List ℕ} {rs : List Record} → (s : Split name rs) → without name rs ≡ s.before ++ s.after
left {name = name} s = ap (without name) s.split ∙ without-first name s.before s.after s.named s.unnamed s.is

pub first : {name : List ℕ} {rs : List Record} → (s : Split name rs) → find (is_named name) rs ≡ Some s.named
first {name = name} s = ap (find (is_named name)) s.split ∙ find-first (is_named name) s.before s.after s.named s.unnamed s.is

some_is : {a b : Record} → Some a ≡ Some b → a ≡ b
some_is e = cc

-- so it is the one that is found
pub named_is : {name : List ℕ} {rs : List Record} {q : Record} → (s : Split name rs) → find (is_named name) rs ≡ Some q → s.named ≡ q
named_is s e = some_is (sym (first s) ∙ e)

head : (r : Record) (rs : List Record) → Contains (r ∷ rs) r
head r rs = Contains-append_left (r ∷ []) rs r (Contains-push [] r)

tail : (r : Record) (rs : List Record) (x : Record) → Contains rs x → Contains (r ∷ rs) x
tail r rs x h = Contains-append_right (r ∷ []) rs x h

pub one_is : (x r : Record) → Contains (r ∷ []) x → x ≡ r
one_is x r h = sym (subst (λ k. slice_index_or (r ∷ []) k x ≡ x) (zero_is h.1) h.2)
  where
    zero_is : {k : ℕ} → k < 1 → k ≡ 0
    zero_is lt = omega (arith, lt)

among : (before after : List Record) (r : Record) → Contains (before ++ r ∷ after) r
among before after r = Contains-append_right before (r ∷ after) r (head r after)

kept : (before after : List Record) (r x : Record) → Contains (before ++ after) x → Contains (before ++ r ∷ after) x
kept before after r x h = ⊎_elim
    (λ k. Contains-append_left before (r ∷ after) x k)
    (λ k. Contains-append_right before (r ∷ after) x (tail r after x k))
    (Contains-append_cases before after x h)

-- the records that are left were there, and the first of the name was, too
pub was_there : {name : List ℕ} {rs : List Record} → (s : Split name rs) → (x : Record) → Contains (without name rs) x → Contains rs x
was_there s x h = subst (λ xs. Contains xs x) (sym s.split) (kept s.before s.after s.named x (subst (λ xs. Contains xs x) (left s) h))

-- each record is left, or the first of the name
pub left_or_first : {name : List ℕ} {rs : List Record} → (s : Split name rs) → (x : Record) → Contains rs x → Contains (without name rs) x ⊎ (x ≡ s.named)
left_or_first s x h = ⊎_elim
    (λ k. inl (subst (λ xs. Contains xs x) (sym (left s)) (Contains-append_left s.before s.after x k)))
    (λ k. ⊎_elim (λ e. inr (one_is x s.named e)) (λ k. inl (subst (λ xs. Contains xs x) (sym (left s)) (Contains-append_right s.before s.after x k))) (Contains-append_cases (s.named ∷ []) s.after x k))
    (Contains-append_cases s.before (s.named ∷ s.after) x (subst (λ xs. Contains xs x) s.split h))

pub first_there : {name : List ℕ} {rs : List Record} → (s : Split name rs) → Contains rs s.named
first_there s = subst (λ xs. Contains xs s.named) (sym s.split) (among s.before s.after s.named)

flip : (x r : Record) → Clash x r → Clash r x
flip x r clash = ⊎_elim (λ e. inl (sym e)) (λ more. ⊎_elim (λ e. inr (inl (sym e))) (λ e. inr (inr (sym e))) more) clash

distinct : (before after : List Record) (r : Record) → Distinct (before ++ r ∷ after) → Distinct (before ++ after)
distinct [] after r d = d.1
distinct (b ∷ before) after r d = (λ q has clash. d.0 q (kept before after r q has) clash, distinct before after r d.1)

-- the others clash not with the one between
others : (before after : List Record) (r : Record) → Distinct (before ++ r ∷ after) → (x : Record) → Contains (before ++ after) x → Clash x r → ⊥
others [] after r d x has clash = d.0 x has (flip x r clash)
others (b ∷ before) after r d x has clash = ⊎_elim
    (λ h. d.0 r (among before after r) (subst (λ (y : Record). Clash y r) (one_is x b h) clash))
    (λ h. others before after r d.1 x h clash)
    (Contains-append_cases (b ∷ []) (before ++ after) x has)

pub left_distinct : {name : List ℕ} {rs : List Record} → Split name rs → Distinct rs → Distinct (without name rs)
left_distinct s d = subst Distinct (sym (left s)) (distinct s.before s.after s.named (subst Distinct s.split d))

pub left_apart : {name : List ℕ} {rs : List Record} → (s : Split name rs) → Distinct rs → (x : Record) → Contains (without name rs) x → Clash x s.named → ⊥
left_apart s d x has clash = others s.before s.after s.named (subst Distinct s.split d) x (subst (λ xs. Contains xs x) (left s) has) clash

-- two spellings of the same records are one
pub one_leaf : {rs : List Record} {a b : List ℕ} → SpellsLeaf rs a → SpellsLeaf rs b → a ≡ b
one_leaf s t = s.bytes_are ∙ sym t.bytes_are
