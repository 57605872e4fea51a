-- The leaf with one record more.
use Rattle.std.proofs.Common.{◌≡◌, ◌⊎◌, inl, inr, ⊎_elim, ◌+◌, ◌*◌, ◌/◌, ◌%◌, ◌<◌, ℕ, List, [], ◌∷◌, ◌++◌, length, Contains, slice_index_or, refl, sym, ◌∙◌, ap, subst, arith}
use Rattle.std.proofs.lemmas.List.Elements.{Contains-append_cases}
use Rattle.fo_image.specs.declared.record.Record.{Record}
use Rattle.fo_meta.specs.Leaf.{SpellsLeaf}
use Rattle.fo_dir_put.specs.of_good.Reading.{leaf_records}
use Rattle.fo_dir_put.proofs.of_good.Leaf.{leaf_is_read}
use Rattle.fo_crash.specs.Images.{Image}
use Rattle.fo_crash.specs.declared.slot.Slot.TheVariants.{Entry as Head}
use Rattle.fo_dir_put.specs.of_good.Trees.{IsFirst, IsSecond}
use Rattle.fo_image.specs.declared.types.Entry.{Entry}
use Rattle.fo_dir_put.specs.Names.{ListsIn, AddsOne, MayStand, Clash}
use Rattle.fo_dir_put.specs.Differ.{Distinct, AreDistinct, MayName}
use Rattle.fo_dir_put.specs.Once.{StandOnce, IsLone, MayComeOnce}
use Rattle.fo_dir_put.specs.Paired.{StoodAs, AddsPaired}
use Rattle.fo_dir_put.proofs.Named.{distinct_more}
use Rattle.fo_dir_add.specs.Adds.{IsAlone, AddsAlone, AddsOnce, IsFullFor, IsNumbered}

one_is : (x r : Record) → Contains (r ∷ []) x → x ≡ r
one_is x r h = sym (subst (λ k. slice_index_or (r ∷ []) k x ≡ x) (zero_is h.1) h.2)
  where
    zero_is : {k : ℕ} → k < 1 → k ≡ 0
    zero_is lt = omega (arith, lt)

-- a record of the new leaf was there, or is the new one
was_or_new : (rs : List Record) (r : Record) (old new : List ℕ) → SpellsLeaf rs old → SpellsLeaf (rs ++ r ∷ []) new → (x : Record) → Contains (leaf_records new) x → Contains (leaf_records old) x ⊎ (x ≡ r)
was_or_new rs r old new was now x has = ⊎_elim
    (λ h. inl (subst (λ xs. Contains xs x) (sym (leaf_is_read rs old was)) h))
    (λ h. inr (one_is x r h))
    (Contains-append_cases rs (r ∷ []) x (subst (λ xs. Contains xs x) (leaf_is_read (rs ++ r ∷ []) new now) has))

pub adds_one : (n p : ℕ) (rs : List Record) (r : Record) (g : ℕ) (old new : List ℕ) → SpellsLeaf rs old → SpellsLeaf (rs ++ r ∷ []) new → p < 102 → r.slot ≡ 102 * n + p → r.generation ≡ g → AddsOne n p g new old
adds_one n p rs r g old new was now lt slot gen = record { each = λ j h lists. by j h lists (was_or_new rs r old new was now lists.named lists.is_one) }
  where
    rest : (s : ℕ) → s ≡ 102 * n + p → s % 102 ≡ p
    rest s e = omega (arith, e, lt)

    by : (j h : ℕ) → (lists : ListsIn n new j h) → Contains (leaf_records old) lists.named ⊎ (lists.named ≡ r) → ListsIn n old j h ⊎ ((j ≡ 2 * p) × (h ≡ g))
    by j h lists (inl there) = inl (record { named = lists.named; is_one = there; leaf = lists.leaf; entry = lists.entry; same = lists.same })
    by j h lists (inr is) = inr (lists.entry ∙ ap (λ k. 2 * k) (ap (λ (x : Record). x.slot % 102) is ∙ rest r.slot slot), sym lists.same ∙ ap (λ (x : Record). x.generation) is ∙ gen)

pub may_stand : (b : ℕ) (rs : List Record) (r : Record) (old new : List ℕ) (images : Image → Type 0) → SpellsLeaf rs old → SpellsLeaf (rs ++ r ∷ []) new → IsAlone r b images → MayStand b new old images
may_stand b rs r old new images was now alone = record {
  each = λ x has. ⊎_elim
      (λ there. inl (x, there, refl, refl, refl))
      (λ is. inr (λ image now_is q two clash. alone.each image now_is q two (subst (λ (y : Record). Clash y q) is clash)))
      (was_or_new rs r old new was now x has);
}

pub may_name : (leaves : List ℕ) (leaf : ℕ) (rs : List Record) (r : Record) (old new : List ℕ) (images : Image → Type 0) → SpellsLeaf rs old → SpellsLeaf (rs ++ r ∷ []) new → AddsAlone r leaf leaves old images → ((image : Image) → images image → Contains leaves leaf → AreDistinct old) → MayName leaves leaf new old images
may_name leaves leaf rs r old new images was now alone distinct = record {
  distinct = λ image is in_leaf. record {
    are = subst Distinct (sym (leaf_is_read (rs ++ r ∷ []) new now)) (distinct_more rs r (subst Distinct (leaf_is_read rs old was) (distinct image is in_leaf).are)
        (λ q has clash. alone.here q (subst (λ xs. Contains xs q) (sym (leaf_is_read rs old was)) has) clash));
  };
  beside = λ b in_b ne. may_stand b rs r old new images was now (alone.others b in_b ne);
}

pub may_come : (leaf : ℕ) (rs : List Record) (r : Record) (old new : List ℕ) (images : Image → Type 0) → SpellsLeaf rs old → SpellsLeaf (rs ++ r ∷ []) new → AddsOnce r leaf old images → StandOnce images → MayComeOnce leaf new old images
may_come leaf rs r old new images was now adds once = record {
  distinct = λ image p is found here of.
      let d = (once.within p old of (record { image = image; is = is; block = leaf; found = found; same = here })).are in
      record { are = subst Distinct (sym (leaf_is_read (rs ++ r ∷ []) new now)) (distinct_more rs r (subst Distinct (leaf_is_read rs old was) d) (λ q has clash. adds.here q (subst (λ xs. Contains xs q) (sym (leaf_is_read rs old was)) has) clash)) };
  beside = λ image p x is found here of has. ⊎_elim
      (λ there. inl (record { before = x; is_one = there; name = refl; number = refl; slot = refl }))
      (λ e. inr (subst (λ (y : Record). IsLone images p y) (sym e) (adds.lone image p is found of)))
      (was_or_new rs r old new was now x has);
}

pub adds_paired : (n p e entries m : ℕ) (first second : Entry) (rs : List Record) (r : Record) (old new : List ℕ) → SpellsLeaf rs old → SpellsLeaf (rs ++ r ∷ []) new → p < 102 → r.slot ≡ 102 * m + p → (n ≡ m → e ≡ entries) → IsFirst (Head first) r → IsSecond (Head second) r → AddsPaired n p e entries first second new old
adds_paired n p e entries m first second rs r old new was now lt slot same one two = record { each = λ x has leaf. by x leaf (was_or_new rs r old new was now x has) }
  where
    rest : (s : ℕ) → s ≡ 102 * m + p → s % 102 ≡ p
    rest s f = omega (arith, f, lt)

    whole : (s : ℕ) → s ≡ 102 * m + p → s / 102 ≡ n → n ≡ m
    whole s f g = omega (arith, f, g, lt)

    by : (x : Record) → x.slot / 102 ≡ n → Contains (leaf_records old) x ⊎ (x ≡ r) → StoodAs old x ⊎ ((e ≡ entries) × (x.slot % 102 ≡ p) × IsFirst (Head first) x × IsSecond (Head second) x)
    by x leaf (inl there) = inl (record { before = x; is_one = there; slot = refl; generation = refl; number = refl; dir = refl })
    by x leaf (inr is) = inr (same (whole r.slot slot (ap (λ (y : Record). y.slot / 102) (sym is) ∙ leaf)), ap (λ (y : Record). y.slot % 102) is ∙ rest r.slot slot, subst (λ (y : Record). IsFirst (Head first) y) (sym is) one, subst (λ (y : Record). IsSecond (Head second) y) (sym is) two)

-- a record with another pair has as much room
pub full_before : {r named : Record} {slot generation : ℕ} {old : List ℕ} → IsNumbered r slot generation named → IsFullFor named old → IsFullFor r old
full_before {r = r} {named = named} is full = record {
  each = λ rs s.
      let name = ap (λ (xs : List ℕ). length xs) is.same_name in
      let uid = ap (λ (xs : List ℕ). length xs) is.same_users.0 in
      let gid = ap (λ (xs : List ℕ). length xs) is.same_users.1 in
      let muid = ap (λ (xs : List ℕ). length xs) is.same_users.2 in
      omega (arith, full.each rs s, name, uid, gid, muid);
}
