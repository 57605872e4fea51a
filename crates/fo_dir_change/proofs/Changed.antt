-- What leaves are without the first of a name, and with a record more.
use Rattle.std.proofs.Common.{◌≡◌, ◌⊎◌, inl, inr, ⊎_elim, ℕ, ◌*◌, ◌/◌, ◌%◌, List, [], ◌∷◌, ◌++◌, Contains, refl, sym, ap, ◌∙◌, subst}
use Rattle.std.proofs.lemmas.List.Elements.{Contains-append_cases}
use Rattle.std.proofs.lemmas.Slice.Eq.{bytes_eq-Decides}
use Rattle.fo_image.specs.declared.record.Record.{Record}
use Rattle.fo_meta.specs.Leaf.{SpellsLeaf, without}
use Rattle.fo_dir_put.specs.of_good.Reading.{leaf_records}
use Rattle.fo_dir_put.proofs.of_good.Leaf.{leaf_is_read}
use Rattle.fo_dir_put.specs.of_world.Step.{is_dir_mode}
use Rattle.fo_dir_put.specs.of_crash.Images.{Image}
use Rattle.fo_dir_put.specs.Names.{ListsIn, AreKept, MayStand, AllApart, Clash}
use Rattle.fo_dir_put.specs.Differ.{Distinct, AreDistinct, AllDiffer, MayName}
use Rattle.fo_dir_put.specs.Paired.{StoodAs, AllStood}
use Rattle.fo_dir_put.proofs.Named.{distinct_more}
use Rattle.fo_dir_change.specs.Changes.{IsSameFile, MayBear, BearsAlone}
use Rattle.fo_dir_change.proofs.Without.{Split, named_is, was_there, first_there, left_distinct, left_apart, one_is}

-- ---- records that were all there

module _ {old new : List ℕ} (back : (x : Record) → Contains (leaf_records new) x → Contains (leaf_records old) x) where
  pub kept_are : (n : ℕ) → AreKept n new old
  kept_are n = record { each = λ j g lists. record { named = lists.named; is_one = back lists.named lists.is_one; leaf = lists.leaf; entry = lists.entry; same = lists.same } }

  pub kept_stand : (b : ℕ) (images : Image → Type 0) → MayStand b new old images
  kept_stand b images = record { each = λ r has. inl (r, back r has, refl, refl, refl) }

  pub kept_stood : (n : ℕ) → AllStood n new old
  kept_stood n = record { each = λ r has slot. record { before = r; is_one = back r has; slot = refl; generation = refl; number = refl; dir = refl } }

-- ---- the first of a name goes

module _ {name : List ℕ} {rs : List Record} {old : List ℕ} (s : Split name rs) (was : SpellsLeaf rs old) where
  there : (x : Record) → Contains rs x → Contains (leaf_records old) x
  there x h = subst (λ xs. Contains xs x) (sym (leaf_is_read rs old was)) h

  pub left_was : {new : List ℕ} → SpellsLeaf (without name rs) new → (x : Record) → Contains (leaf_records new) x → Contains (leaf_records old) x
  left_was {new = new} now x has = there x (was_there s x (subst (λ xs. Contains xs x) (leaf_is_read (without name rs) new now) has))

  pub left_name : {new : List ℕ} (leaves : List ℕ) (leaf : ℕ) (images : Image → Type 0) → SpellsLeaf (without name rs) new → ((image : Image) → images image → Contains leaves leaf → AreDistinct old) → MayName leaves leaf new old images
  left_name {new = new} leaves leaf images now distinct = record {
    distinct = λ image is in_leaf. record { are = subst Distinct (sym (leaf_is_read (without name rs) new now)) (left_distinct s (subst Distinct (leaf_is_read rs old was) (distinct image is in_leaf).are)) };
    beside = λ b in_b ne. kept_stand (left_was now) b images;
  }

  -- ---- and one comes of the same file

  module _ {new : List ℕ} {r : Record} (now : SpellsLeaf (without name rs ++ r ∷ []) new) (f : IsSameFile name r old) where
    first_is : s.named ≡ f.before
    first_is = named_is s (f.first.each rs was)

    pub before_there : Contains (leaf_records old) f.before
    before_there = subst (λ y. Contains (leaf_records old) y) first_is (there s.named (first_there s))

    pub before_name : f.before.name ≡ name
    before_name = ap (λ (y : Record). y.name) (sym first_is) ∙ (bytes_eq-Decides s.named.name name).0 s.is

    pub was_or_new : (x : Record) → Contains (leaf_records new) x → Contains (leaf_records old) x ⊎ (x ≡ r)
    was_or_new x has = ⊎_elim
        (λ h. inl (there x (was_there s x h)))
        (λ h. inr (one_is x r h))
        (Contains-append_cases (without name rs) (r ∷ []) x (subst (λ xs. Contains xs x) (leaf_is_read (without name rs ++ r ∷ []) new now) has))

    pub changed_are : (n : ℕ) → AreKept n new old
    changed_are n = record { each = λ j g lists. by j g lists (was_or_new lists.named lists.is_one) }
      where
        by : (j g : ℕ) → (lists : ListsIn n new j g) → Contains (leaf_records old) lists.named ⊎ (lists.named ≡ r) → ListsIn n old j g
        by j g lists (inl h) = record { named = lists.named; is_one = h; leaf = lists.leaf; entry = lists.entry; same = lists.same }
        by j g lists (inr is) = record {
          named = f.before;
          is_one = before_there;
          leaf = ap (λ k. k / 102) (sym f.slot) ∙ ap (λ (y : Record). y.slot / 102) (sym is) ∙ lists.leaf;
          entry = lists.entry ∙ ap (λ (y : Record). 2 * (y.slot % 102)) is ∙ ap (λ k. 2 * (k % 102)) f.slot;
          same = sym f.generation ∙ ap (λ (y : Record). y.generation) (sym is) ∙ lists.same;
        }

    pub changed_stood : (n : ℕ) → AllStood n new old
    changed_stood n = record { each = λ x has slot. by x (was_or_new x has) }
      where
        by : (x : Record) → Contains (leaf_records old) x ⊎ (x ≡ r) → StoodAs old x
        by x (inl h) = record { before = x; is_one = h; slot = refl; generation = refl; number = refl; dir = refl }
        by x (inr is) = record {
          before = f.before;
          is_one = before_there;
          slot = sym f.slot ∙ ap (λ (y : Record). y.slot) (sym is);
          generation = sym f.generation ∙ ap (λ (y : Record). y.generation) (sym is);
          number = sym f.number ∙ ap (λ (y : Record). y.number) (sym is);
          dir = f.dir ∙ ap (λ (y : Record). is_dir_mode y.mode) (sym is);
        }

    pub changed_stands : (b leaf : ℕ) (now_is : Image) (images : Image → Type 0) → (now_is leaf).bytes ≡ old → ((image : Image) → images image → images now_is) → MayBear name r b images → AllApart leaf b images → MayStand b new old images
    changed_stands b leaf now_is images same present may all = record { each = λ x has. by x may (was_or_new x has) }
      where
        clashes : (image : Image) → images image → (q : Record) → Contains (leaf_records ((image b).bytes)) q → Clash f.before q → ⊥
        clashes image is q two clash = all.each now_is image (present image is) is f.before q (subst (λ xs. Contains (leaf_records xs) f.before) (sym same) before_there) two clash

        by : (x : Record) → MayBear name r b images → Contains (leaf_records old) x ⊎ (x ≡ r) → ((p : Record) × Contains (leaf_records old) p × (x.name ≡ p.name) × (x.number ≡ p.number) × (x.slot ≡ p.slot)) ⊎ ((image : Image) → images image → (q : Record) → Contains (leaf_records ((image b).bytes)) q → Clash x q → ⊥)
        by x bears (inl h) = inl (x, h, refl, refl, refl)
        by x (inl keeps) (inr is) = inl (f.before, before_there, ap (λ (y : Record). y.name) is ∙ keeps ∙ sym before_name, ap (λ (y : Record). y.number) is ∙ f.number, ap (λ (y : Record). y.slot) is ∙ f.slot)
        by x (inr free) (inr is) = inr (λ image is_one q two clash. ⊎_elim
            (λ e. free image is_one q two (ap (λ (y : Record). y.name) (sym is) ∙ e))
            (λ more. ⊎_elim
            (λ e. clashes image is_one q two (inr (inl (sym f.number ∙ ap (λ (y : Record). y.number) (sym is) ∙ e))))
            (λ e. clashes image is_one q two (inr (inr (sym f.slot ∙ ap (λ (y : Record). y.slot) (sym is) ∙ e))))
            more)
            clash)

    -- the new one clashes with none that is left
    pub alone : Distinct rs → (r.name ≡ name) ⊎ ((q : Record) → Contains (leaf_records old) q → r.name ≡ q.name → ⊥) → (q : Record) → Contains (without name rs) q → Clash q r → ⊥
    alone d bears q has (inr (inl e)) = left_apart s d q has (inr (inl (e ∙ f.number ∙ ap (λ (y : Record). y.number) (sym first_is))))
    alone d bears q has (inr (inr e)) = left_apart s d q has (inr (inr (e ∙ f.slot ∙ ap (λ (y : Record). y.slot) (sym first_is))))
    alone d (inl keeps) q has (inl e) = left_apart s d q has (inl (e ∙ keeps ∙ sym ((bytes_eq-Decides s.named.name name).0 s.is)))
    alone d (inr free) q has (inl e) = free q (there q (was_there s q has)) (sym e)

    pub changed_name : (leaves : List ℕ) (leaf : ℕ) (now_is : Image) (images : Image → Type 0) → (now_is leaf).bytes ≡ old → ((image : Image) → images image → images now_is) → Contains leaves leaf → BearsAlone name r leaf leaves old images → AllDiffer leaves images → MayName leaves leaf new old images
    changed_name leaves leaf now_is images same present in_leaf bears all = record {
      distinct = λ image is h.
          let d = subst Distinct (leaf_is_read rs old was) (subst AreDistinct same (all.within leaf in_leaf now_is (present image is))).are in
          record { are = subst Distinct (sym (leaf_is_read (without name rs ++ r ∷ []) new now)) (distinct_more (without name rs) r (left_distinct s d) (alone d bears.0)) };
      beside = λ b in_b ne. changed_stands b leaf now_is images same present (bears.1 b in_b ne) (all.between leaf b in_leaf in_b (λ e. ne (sym e)));
    }
