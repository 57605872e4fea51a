-- The two images show no record but the one, which has its pair.
use Rattle.std.proofs.Common.{◌≡◌, ◌⊎◌, inl, inr, ⊎_elim, ℕ, zero, suc, true, List, [], ◌∷◌, refl, sym, ◌∙◌, ap, subst, arith}
use Rattle.std.specs.List.{Contains}
use Rattle.std.specs.Prelude.{codes}
use Rattle.std.specs.Str.{is_utf8, chars}
use lib.Utf8.{encode}
use Rattle.fo_image.specs.Record.{IsTextWithin}
use Rattle.fo_image.specs.declared.record.Record.{Record}
use Rattle.fo_image.specs.declared.types.Pointer.TheVariants.{Nil, Local}
use Rattle.fo_crash.specs.declared.slot.Slot.{Slot}
use Rattle.fo_crash.specs.Images.{Image, target, local, walk, to_block}
use Rattle.fo_crash.specs.Spots.{Spot, FoundAt, top_spot, spot_at, spot_below}
use Rattle.fo_crash.proofs.Reach.{lost}
use Rattle.fo_meta.specs.Leaf.{HasSpelling, SpellsLeaf}
use Rattle.fo_good.specs.Reading.{leaf_records}
use Rattle.fo_good.proofs.Leaf.{leaf_is_read}
use Rattle.fo_shown.specs.Shown.{active}
use Rattle.fo_dir_pairs.specs.Pairs.{HasPairAt, PairsStandIn, ShowsRecord}
use Rattle.fo_dir_pairs.specs.Example.{first, leaf_of, slots, one_leaf, later, both, leaf_spot}

-- ---- the leaves

user : IsTextWithin 64 (codes "u")
unfolding is_utf8 chars encode
user = record { some = omega arith; within = omega arith; is_text = refl }

name_a : IsTextWithin 255 (codes "a")
unfolding is_utf8 chars encode
name_a = record { some = omega arith; within = omega arith; is_text = refl }

first_spelled : HasSpelling first
first_spelled = record {
  holds = record { name_is = name_a; uid_is = user; gid_is = user; muid_is = user };
  fit = (omega arith, (omega arith, (omega arith, (omega arith, (omega arith, (omega arith, (omega arith, (omega arith, (omega arith, (omega arith, (omega arith, (omega arith, tt))))))))))));
}

none_leaf : leaf_records (leaf_of []) ≡ []
unfolding leaf_of
none_leaf = leaf_is_read [] (leaf_of []) (record { each = tt; room = omega arith; bytes_are = refl })

first_spells : SpellsLeaf (first ∷ []) (leaf_of (first ∷ []))
unfolding leaf_of
first_spells = record { each = (first_spelled, tt); room = omega arith; bytes_are = refl }

first_leaf : leaf_records (leaf_of (first ∷ [])) ≡ first ∷ []
first_leaf = leaf_is_read (first ∷ []) (leaf_of (first ∷ [])) first_spells

none_in : (q : Record) → Contains [] q → ⊥
none_in q (i, lt, is) = omega (arith, lt)

only_is : (q : Record) → Contains (first ∷ []) q → q ≡ first
only_is q (zero, lt, is) = sym is
only_is q (suc i, lt, is) = absurd (omega (arith, lt))

-- ---- what is found

local_is : {a b : ℕ} → Local a ≡ Local b → a ≡ b
local_is e = cc

-- A block and the spot where it is found: the leaf of records, or a block with none.
abbrev Outcome : List Record → ℕ → Spot → Type 0
Outcome rs b p = ((b ≡ 4) × (p ≡ leaf_spot)) ⊎ ((one_leaf rs b).bytes ≡ leaf_of [])

entries_end : (i : ℕ) → target (slots 3 i) ≡ Nil
entries_end zero = refl
entries_end (suc i) = refl

module _ (rs : List Record) where
  -- no path goes on from a block of no slots
  ends : (a : ℕ) (s : Slot) (path : List ℕ) (b : ℕ) (p : Spot) → target s ≡ Local a → ((i : ℕ) → target (slots a i) ≡ Nil) → target (walk (one_leaf rs) s path) ≡ Local b → (b ≡ a) × (spot_at (one_leaf rs) p s path ≡ p)
  ends a s [] b p to none e = (local_is (sym e ∙ to), refl)
  ends a s (i ∷ path) b p to none e = absurd (lost (one_leaf rs) path ((local (one_leaf rs) (target s)).slot i) (λ c leads. let no : Nil ≡ Local c = sym (none i) ∙ sym (ap (λ x. target ((local (one_leaf rs) x).slot i)) to) ∙ leads in cc) b e)

  from_root : (path : List ℕ) (b : ℕ) (p : Spot) → p ≡ spot_below (top_spot 1) 0 (to_block 2) → target (walk (one_leaf rs) (to_block 2) path) ≡ Local b → Outcome rs b (spot_at (one_leaf rs) p (to_block 2) path)
  from_root [] b p is e = inr (ap (λ x. (one_leaf rs x).bytes) (local_is (sym e)))
  from_root (zero ∷ path) b p is e = let end = ends 3 (slots 2 0) path b (spot_below p 0 (slots 2 0)) refl entries_end e in inr (ap (λ x. (one_leaf rs x).bytes) end.0)
  from_root (suc zero ∷ path) b p is e = let end = ends 4 (slots 2 1) path b (spot_below p 1 (slots 2 1)) refl (λ i. refl) e in inl (end.0, end.1 ∙ ap (λ x. spot_below x 1 (slots 2 1)) is)
  from_root (suc (suc i) ∷ path) b p is e = absurd (lost (one_leaf rs) path (slots 2 (suc (suc i))) (λ c leads. cc) b e)

  from_super : (path : List ℕ) (b : ℕ) → target (walk (one_leaf rs) (to_block 1) path) ≡ Local b → Outcome rs b (spot_at (one_leaf rs) (top_spot 1) (to_block 1) path)
  from_super [] b e = inr (ap (λ x. (one_leaf rs x).bytes) (local_is (sym e)))
  from_super (zero ∷ path) b e = from_root path b (spot_below (top_spot 1) 0 (to_block 2)) refl e
  from_super (suc i ∷ path) b e = absurd (lost (one_leaf rs) path (slots 1 (suc i)) (λ c leads. cc) b e)

  outcome : (b : ℕ) (p : Spot) → FoundAt active (one_leaf rs) b p → Outcome rs b p
  outcome b p found = subst (λ x. Outcome rs b x) (subst (λ t. spot_at (one_leaf rs) (top_spot t) (to_block t) found.path ≡ p) found.is_top found.spot) (from_super found.path b (subst (λ t. target (walk (one_leaf rs) (to_block t) found.path) ≡ Local b) found.is_top found.leads))

-- the record's pair, which each of the images has
has_pair : (rs : List Record) → HasPairAt (one_leaf rs) leaf_spot first
has_pair rs = record {
  block = 3;
  found = record { top = 1; is_top = refl; path = 0 ∷ 0 ∷ []; leads = refl; spot = refl };
  both = record { first = (refl, refl, refl, refl); second = (refl, refl, λ on. let no = on in cc) };
}

none_shown : (p : Spot) (r : Record) → ShowsRecord (one_leaf []) p r → ⊥
none_shown p r s =
    let bytes : (one_leaf [] s.block).bytes ≡ leaf_of [] = ⊎_elim (λ h. ap (λ x. (one_leaf [] x).bytes) h.0) (λ none. none) (outcome [] s.block p s.found) in
    none_in r (subst (λ xs. Contains xs r) (ap leaf_records bytes ∙ none_leaf) s.listed)

-- what the later image shows
one_shown : (p : Spot) (r : Record) → ShowsRecord later p r → (p ≡ leaf_spot) × (r ≡ first)
one_shown p r s = ⊎_elim
    (λ h. (h.1, only_is r (subst (λ xs. Contains xs r) (ap (λ x. leaf_records ((later x).bytes)) h.0 ∙ first_leaf) s.listed)))
    (λ none. absurd (none_in r (subst (λ xs. Contains xs r) (ap leaf_records none ∙ none_leaf) s.listed)))
    (outcome (first ∷ []) s.block p s.found)

later_has : (p : Spot) (r : Record) → ShowsRecord later p r → HasPairAt later p r
later_has p r s = let is = one_shown p r s in subst (λ q. HasPairAt later q r) (sym is.0) (subst (λ q. HasPairAt later leaf_spot q) (sym is.1) (has_pair (first ∷ [])))

pub pairs_stand : PairsStandIn later both
pairs_stand = record {
  each = λ image is. record {
    each = λ p r s. ⊎_elim
        (λ e. absurd (none_shown p r (subst (λ (x : Image). ShowsRecord x p r) e s)))
        (λ e. subst (λ (x : Image). HasPairAt x p r) (sym e) (later_has p r (subst (λ (x : Image). ShowsRecord x p r) e s)))
        is;
  };
  memory = λ image p r is s named. ⊎_elim
      (λ e. absurd (none_shown p r (subst (λ (x : Image). ShowsRecord x p r) e s)))
      (λ e. later_has p r (subst (λ (x : Image). ShowsRecord x p r) e s))
      is;
}

pub first_shown : ShowsRecord later leaf_spot first
first_shown = record {
  of = (refl, refl);
  block = 4;
  found = record { top = 1; is_top = refl; path = 0 ∷ 1 ∷ []; leads = refl; spot = refl };
  listed = subst (λ (xs : List Record). Contains xs first) (sym first_leaf) (0, omega arith, refl);
  first = record {
    block = 2;
    at = spot_below (top_spot 1) 0 (to_block 2);
    slot = 0;
    entry = record { generation = 0; active = true; dir = true; depth = 0; tag = 32; size = 8192; top = Local 3 };
    found = record { top = 1; is_top = refl; path = 0 ∷ []; leads = refl; spot = refl };
    holds = inr refl;
    within = omega arith;
    is = refl;
    used = (refl, refl);
    trail_is = refl;
    tag_is = refl;
  };
}
