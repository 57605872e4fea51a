-- The two images show two leaves of records.
use Rattle.std.proofs.Common.{◌≡◌, ◌⊎◌, inl, inr, ⊎_elim, ℕ, zero, suc, List, [], ◌∷◌, refl, sym, ◌∙◌, ap, subst, arith}
use Rattle.std.specs.List.{Contains}
use Rattle.std.specs.Prelude.{codes}
use Rattle.std.specs.Str.{is_utf8, chars}
use lib.Utf8.{encode}
use Rattle.fo_image.specs.Record.{IsTextWithin}
use Rattle.fo_image.specs.declared.record.Record.{Record}
use Rattle.fo_image.specs.declared.types.Pointer.TheVariants.{Nil, Local}
use Rattle.fo_crash.specs.declared.slot.Slot.{Slot}
use Rattle.fo_crash.specs.Images.{Image, target, local, walk, to_block}
use Rattle.fo_crash.specs.Spots.{Spot, FoundAt, top_spot, spot_at, spot_below}
use Rattle.fo_crash.proofs.Reach.{lost}
use Rattle.fo_meta.specs.Leaf.{HasSpelling, SpellsLeaf}
use Rattle.fo_good.specs.Reading.{leaf_records}
use Rattle.fo_good.proofs.Leaf.{leaf_is_read}
use Rattle.fo_shown.specs.Shown.{active, IsShownAt}
use Rattle.fo_dir_put.specs.Differ.{AreDistinct, Distinct}
use Rattle.fo_dir_put.specs.Once.{StandOnce, ClashAt}
use Rattle.fo_dir_images.proofs.Trailing.{local_is}
use Rattle.fo_dir_names.specs.Example.{first, second, leaf_of, slots, two_leaves, both, leaf_spot}

-- ---- the leaves

user : IsTextWithin 64 (codes "u")
unfolding is_utf8 chars encode
user = record { some = omega arith; within = omega arith; is_text = refl }

name_a : IsTextWithin 255 (codes "a")
unfolding is_utf8 chars encode
name_a = record { some = omega arith; within = omega arith; is_text = refl }

name_b : IsTextWithin 255 (codes "b")
unfolding is_utf8 chars encode
name_b = record { some = omega arith; within = omega arith; is_text = refl }

first_spelled : HasSpelling first
first_spelled = record {
  holds = record { name_is = name_a; uid_is = user; gid_is = user; muid_is = user };
  fit = (omega arith, (omega arith, (omega arith, (omega arith, (omega arith, (omega arith, (omega arith, (omega arith, (omega arith, (omega arith, (omega arith, (omega arith, tt))))))))))));
}

second_spelled : HasSpelling second
second_spelled = record {
  holds = record { name_is = name_b; uid_is = user; gid_is = user; muid_is = user };
  fit = (omega arith, (omega arith, (omega arith, (omega arith, (omega arith, (omega arith, (omega arith, (omega arith, (omega arith, (omega arith, (omega arith, (omega arith, tt))))))))))));
}

none_leaf : leaf_records (leaf_of []) ≡ []
unfolding leaf_of
none_leaf = leaf_is_read [] (leaf_of []) (record { each = tt; room = omega arith; bytes_are = refl })

pub first_spells : SpellsLeaf (first ∷ []) (leaf_of (first ∷ []))
unfolding leaf_of
first_spells = record { each = (first_spelled, tt); room = omega arith; bytes_are = refl }

pub second_spells : SpellsLeaf (second ∷ []) (leaf_of (second ∷ []))
unfolding leaf_of
second_spells = record { each = (second_spelled, tt); room = omega arith; bytes_are = refl }

pub first_leaf : leaf_records (leaf_of (first ∷ [])) ≡ first ∷ []
first_leaf = leaf_is_read (first ∷ []) (leaf_of (first ∷ [])) first_spells

pub second_leaf : leaf_records (leaf_of (second ∷ [])) ≡ second ∷ []
second_leaf = leaf_is_read (second ∷ []) (leaf_of (second ∷ [])) second_spells

pub only : (r : Record) → Contains (r ∷ []) r
only r = (0, omega arith, refl)

-- ---- what is found

-- A block and the spot where it is found: the first leaf, the second, or a block with no records.
abbrev Outcome : List Record → ℕ → Spot → Type 0
Outcome rs b p = ((b ≡ 4) × (p ≡ leaf_spot 0)) ⊎ (((b ≡ 6) × (p ≡ leaf_spot 1)) ⊎ ((two_leaves rs b).bytes ≡ leaf_of []))

entries_end : (i : ℕ) → target (slots 3 i) ≡ Nil
entries_end zero = refl
entries_end (suc zero) = refl
entries_end (suc (suc zero)) = refl
entries_end (suc (suc (suc i))) = refl

module _ (rs : List Record) where
  -- no path goes on from a block of no slots
  ends : (a : ℕ) (s : Slot) (path : List ℕ) (b : ℕ) (p : Spot) → target s ≡ Local a → ((i : ℕ) → target (slots a i) ≡ Nil) → target (walk (two_leaves rs) s path) ≡ Local b → (b ≡ a) × (spot_at (two_leaves rs) p s path ≡ p)
  ends a s [] b p to none e = (local_is (sym e ∙ to), refl)
  ends a s (i ∷ path) b p to none e = absurd (lost (two_leaves rs) path ((local (two_leaves rs) (target s)).slot i) (λ c leads. let no : Nil ≡ Local c = sym (none i) ∙ sym (ap (λ x. target ((local (two_leaves rs) x).slot i)) to) ∙ leads in cc) b e)

  from_top : (path : List ℕ) (b : ℕ) (p : Spot) → (spot_below p 0 (slots 5 0) ≡ leaf_spot 0) → (spot_below p 1 (slots 5 1) ≡ leaf_spot 1)
      → target (walk (two_leaves rs) (slots 2 1) path) ≡ Local b → Outcome rs b (spot_at (two_leaves rs) p (slots 2 1) path)
  from_top [] b p one two e = inr (inr (ap (λ x. (two_leaves rs x).bytes) (local_is (sym e))))
  from_top (zero ∷ path) b p one two e = let end = ends 4 (slots 5 0) path b (spot_below p 0 (slots 5 0)) refl (λ i. refl) e in inl (end.0, end.1 ∙ one)
  from_top (suc zero ∷ path) b p one two e = let end = ends 6 (slots 5 1) path b (spot_below p 1 (slots 5 1)) refl (λ i. refl) e in inr (inl (end.0, end.1 ∙ two))
  from_top (suc (suc i) ∷ path) b p one two e = absurd (lost (two_leaves rs) path (slots 5 (suc (suc i))) (λ c leads. cc) b e)

  from_root : (path : List ℕ) (b : ℕ) (p : Spot) → p ≡ spot_below (top_spot 1) 0 (to_block 2) → target (walk (two_leaves rs) (to_block 2) path) ≡ Local b → Outcome rs b (spot_at (two_leaves rs) p (to_block 2) path)
  from_root [] b p is e = inr (inr (ap (λ x. (two_leaves rs x).bytes) (local_is (sym e))))
  from_root (zero ∷ path) b p is e = let end = ends 3 (slots 2 0) path b (spot_below p 0 (slots 2 0)) refl entries_end e in inr (inr (ap (λ x. (two_leaves rs x).bytes) end.0))
  from_root (suc zero ∷ path) b p is e = from_top path b (spot_below p 1 (slots 2 1)) (ap (λ x. spot_below (spot_below x 1 (slots 2 1)) 0 (slots 5 0)) is) (ap (λ x. spot_below (spot_below x 1 (slots 2 1)) 1 (slots 5 1)) is) e
  from_root (suc (suc i) ∷ path) b p is e = absurd (lost (two_leaves rs) path (slots 2 (suc (suc i))) (λ c leads. cc) b e)

  from_super : (path : List ℕ) (b : ℕ) → target (walk (two_leaves rs) (to_block 1) path) ≡ Local b → Outcome rs b (spot_at (two_leaves rs) (top_spot 1) (to_block 1) path)
  from_super [] b e = inr (inr (ap (λ x. (two_leaves rs x).bytes) (local_is (sym e))))
  from_super (zero ∷ path) b e = from_root path b (spot_below (top_spot 1) 0 (to_block 2)) refl e
  from_super (suc i ∷ path) b e = absurd (lost (two_leaves rs) path (slots 1 (suc i)) (λ c leads. cc) b e)

  outcome : (b : ℕ) (p : Spot) → FoundAt active (two_leaves rs) b p → Outcome rs b p
  outcome b p found = subst (λ x. Outcome rs b x) (subst (λ t. spot_at (two_leaves rs) (top_spot t) (to_block t) found.path ≡ p) found.is_top found.spot) (from_super found.path b (subst (λ t. target (walk (two_leaves rs) (to_block t) found.path) ≡ Local b) found.is_top found.leads))

-- What is shown at a spot: the first record, the second, or none.
abbrev Shows : Spot → List ℕ → Type 0
Shows p bytes = ((p ≡ leaf_spot 0) × (leaf_records bytes ≡ first ∷ [])) ⊎ (((p ≡ leaf_spot 1) × (leaf_records bytes ≡ second ∷ [])) ⊎ (leaf_records bytes ≡ []))

shows_at : (rs : List Record) (b : ℕ) (p : Spot) → FoundAt active (two_leaves rs) b p → (leaf_records (leaf_of rs) ≡ second ∷ []) ⊎ (leaf_records (leaf_of rs) ≡ []) → Shows p ((two_leaves rs b).bytes)
shows_at rs b p found what = ⊎_elim
    (λ x. inl (x.1, ap (λ c. leaf_records ((two_leaves rs c).bytes)) x.0 ∙ first_leaf))
    (λ rest. ⊎_elim
    (λ x. ⊎_elim (λ one. inr (inl (x.1, ap (λ c. leaf_records ((two_leaves rs c).bytes)) x.0 ∙ one))) (λ none. inr (inr (ap (λ c. leaf_records ((two_leaves rs c).bytes)) x.0 ∙ none))) what)
    (λ none. inr (inr (ap leaf_records none ∙ none_leaf)))
    rest)
    (outcome rs b p found)

shows : (p : Spot) (bytes : List ℕ) → IsShownAt both p bytes → Shows p bytes
shows p bytes shown = subst (λ x. Shows p x) shown.same (⊎_elim
    (λ e. subst (λ (image : Image). FoundAt active image shown.block p → Shows p ((image shown.block).bytes)) (sym e) (λ found. shows_at [] shown.block p found (inr none_leaf)) shown.found)
    (λ e. subst (λ (image : Image). FoundAt active image shown.block p → Shows p ((image shown.block).bytes)) (sym e) (λ found. shows_at (second ∷ []) shown.block p found (inl second_leaf)) shown.found)
    shown.is)

none_in : (q : Record) → Contains [] q → ⊥
none_in q (i, lt, is) = omega (arith, lt)

one_distinct : (r : Record) (bytes : List ℕ) → leaf_records bytes ≡ r ∷ [] → AreDistinct bytes
one_distinct r bytes e = record { are = subst Distinct (sym e) ((λ q among. absurd (none_in q among)), tt) }

only_is : (r q : Record) → Contains (r ∷ []) q → q ≡ r
only_is r q (zero, lt, is) = sym is
only_is r q (suc i, lt, is) = absurd (omega (arith, lt))

abbrev front : List ℕ → ℕ
front [] = 0
front (x ∷ xs) = x

-- records of two leaves
apart : (p q : Spot) (r t : Record) → r ≡ first → t ≡ second → ClashAt p q r t → ⊥
apart p q r t is_first is_second clash = subst (λ x. ClashAt p q x t → ⊥) (sym is_first) (λ c. subst (λ x. ClashAt p q first x → ⊥) (sym is_second) (differ p q) c) clash
  where
    differ : (p q : Spot) → ClashAt p q first second → ⊥
    differ p q (inl e) = let no : 1 ≡ 2 = e in omega (arith, no)
    differ p q (inr (dir, inl e)) = let no : 97 ≡ 98 = ap front e in omega (arith, no)
    differ p q (inr (dir, inr (inl e))) = let no : 1 ≡ 2 = e in omega (arith, no)
    differ p q (inr (dir, inr (inr e))) = let no : 0 ≡ 1 = e in omega (arith, no)

turned : (p q : Spot) (r t : Record) → ClashAt p q r t → ClashAt q p t r
turned p q r t (inl e) = inl (sym e)
turned p q r t (inr (dir, inl e)) = inr ((sym dir.0, sym dir.1), inl (sym e))
turned p q r t (inr (dir, inr (inl e))) = inr ((sym dir.0, sym dir.1), inr (inl (sym e)))
turned p q r t (inr (dir, inr (inr e))) = inr ((sym dir.0, sym dir.1), inr (inr (sym e)))

none_listed : (r : Record) (bytes : List ℕ) → leaf_records bytes ≡ [] → Contains (leaf_records bytes) r → ⊥
none_listed r bytes e among = none_in r (subst (λ xs. Contains xs r) e among)

pub one_listed : (r t : Record) (bytes : List ℕ) → leaf_records bytes ≡ r ∷ [] → Contains (leaf_records bytes) t → t ≡ r
one_listed r t bytes e among = only_is r t (subst (λ xs. Contains xs t) e among)

two_apart : (p q : Spot) (xs ys : List ℕ) (r t : Record) → (p ≡ q → ⊥) → Shows p xs → Shows q ys → Contains (leaf_records xs) r → Contains (leaf_records ys) t → ClashAt p q r t → ⊥
two_apart p q xs ys r t ne (inr (inr none)) there in_xs in_ys clash = none_listed r xs none in_xs
two_apart p q xs ys r t ne (inl x) (inr (inr none)) in_xs in_ys clash = none_listed t ys none in_ys
two_apart p q xs ys r t ne (inr (inl x)) (inr (inr none)) in_xs in_ys clash = none_listed t ys none in_ys
two_apart p q xs ys r t ne (inl x) (inl y) in_xs in_ys clash = ne (x.0 ∙ sym y.0)
two_apart p q xs ys r t ne (inr (inl x)) (inr (inl y)) in_xs in_ys clash = ne (x.0 ∙ sym y.0)
two_apart p q xs ys r t ne (inl x) (inr (inl y)) in_xs in_ys clash = apart p q r t (one_listed first r xs x.1 in_xs) (one_listed second t ys y.1 in_ys) clash
two_apart p q xs ys r t ne (inr (inl x)) (inl y) in_xs in_ys clash = apart q p t r (one_listed first t ys y.1 in_ys) (one_listed second r xs x.1 in_xs) (turned p q r t clash)

all_distinct : (p : Spot) (bytes : List ℕ) → Shows p bytes → AreDistinct bytes
all_distinct p bytes (inl x) = one_distinct first bytes x.1
all_distinct p bytes (inr (inl x)) = one_distinct second bytes x.1
all_distinct p bytes (inr (inr none)) = record { are = subst Distinct (sym none) tt }

pub both_stand_once : StandOnce both
both_stand_once = record {
  within = λ p bytes of shown. all_distinct p bytes (shows p bytes shown);
  between = λ p q xs ys r t of_p of_q ne one two in_xs in_ys clash. two_apart p q xs ys r t ne (shows p xs one) (shows q ys two) in_xs in_ys clash;
}

pub first_shown : IsShownAt both (leaf_spot 0) (leaf_of (first ∷ []))
first_shown = record { image = two_leaves []; is = inl refl; block = 4; found = record { top = 1; is_top = refl; path = 0 ∷ 1 ∷ 0 ∷ []; leads = refl; spot = refl }; same = refl }

pub second_shown : IsShownAt both (leaf_spot 1) (leaf_of (second ∷ []))
second_shown = record { image = two_leaves (second ∷ []); is = inr refl; block = 6; found = record { top = 1; is_top = refl; path = 0 ∷ 1 ∷ 1 ∷ []; leads = refl; spot = refl }; same = refl }
