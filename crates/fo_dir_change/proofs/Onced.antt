-- Records that images show stand once where the first of a name goes, and where one of the same file comes for it.
use Rattle.std.proofs.Common.{◌≡◌, ◌⊎◌, inl, inr, ⊎_elim, ℕ, List, [], ◌∷◌, ◌++◌, Contains, refl, sym, ap, ◌∙◌, subst}
use Rattle.fo_image.specs.declared.record.Record.{Record}
use Rattle.fo_meta.specs.Leaf.{SpellsLeaf, without}
use Rattle.fo_dir_put.specs.of_good.Reading.{leaf_records}
use Rattle.fo_dir_put.proofs.of_good.Leaf.{leaf_is_read}
use Rattle.fo_dir_put.specs.of_crash.Images.{Image}
use Rattle.fo_dir_put.specs.of_crash.Spots.{Spot, FoundAt}
use Rattle.fo_dir_put.specs.of_shown.Shown.{active, IsOfRecords, IsShownAt}
use Rattle.fo_dir_put.specs.Differ.{Distinct}
use Rattle.fo_dir_put.specs.Once.{ClashAt, StandOnce, StandsIn, IsLone, MayComeOnce}
use Rattle.fo_dir_put.proofs.Named.{distinct_more}
use Rattle.fo_dir_change.specs.Changes.{IsSameFile, BearsOnce}
use Rattle.fo_dir_change.proofs.Without.{Split, left_distinct}
use Rattle.fo_dir_change.proofs.Changed.{left_was, was_or_new, before_there, before_name, alone}

module _ {name : List ℕ} {rs : List Record} {old : List ℕ} (s : Split name rs) (was : SpellsLeaf rs old) (leaf : ℕ) (images : Image → Type 0) (once : StandOnce images) where
  lies : (image : Image) (p : Spot) → images image → FoundAt active image leaf p → (image leaf).bytes ≡ old → IsShownAt images p old
  lies image p is found here = record { image = image; is = is; block = leaf; found = found; same = here }

  all_distinct : (image : Image) (p : Spot) → images image → FoundAt active image leaf p → (image leaf).bytes ≡ old → IsOfRecords p → Distinct rs
  all_distinct image p is found here of = subst Distinct (leaf_is_read rs old was) (once.within p old of (lies image p is found here)).are

  pub left_once : {new : List ℕ} → SpellsLeaf (without name rs) new → MayComeOnce leaf new old images
  left_once {new = new} now = record {
    distinct = λ image p is found here of. record { are = subst Distinct (sym (leaf_is_read (without name rs) new now)) (left_distinct s (all_distinct image p is found here of)) };
    beside = λ image p r is found here of has. inl (record { before = r; is_one = left_was s was now r has; name = refl; number = refl; slot = refl });
  }

  module _ {new : List ℕ} {r : Record} (now : SpellsLeaf (without name rs ++ r ∷ []) new) (f : IsSameFile name r old) (bears : BearsOnce name r leaf old images) where
    names_here : (r.name ≡ name) ⊎ ((q : Record) → Contains (leaf_records old) q → r.name ≡ q.name → ⊥)
    names_here = ⊎_elim (λ keeps. inl keeps) (λ free. inr free.0) bears

    there : Contains (leaf_records old) f.before
    there = before_there s was now f

    by : (image : Image) (p : Spot) (x : Record) → images image → FoundAt active image leaf p → (image leaf).bytes ≡ old → IsOfRecords p → BearsOnce name r leaf old images → Contains (leaf_records old) x ⊎ (x ≡ r) → StandsIn old x ⊎ IsLone images p x
    by image p x is found here of bears (inl h) = inl (record { before = x; is_one = h; name = refl; number = refl; slot = refl })
    by image p x is found here of (inl keeps) (inr e) = inl (record {
      before = f.before;
      is_one = there;
      name = before_name s was now f ∙ sym keeps ∙ ap (λ (y : Record). y.name) (sym e);
      number = sym f.number ∙ ap (λ (y : Record). y.number) (sym e);
      slot = sym f.slot ∙ ap (λ (y : Record). y.slot) (sym e);
    })
    by image p x is found here of (inr free) (inr e) = inr (record { each = lone })
      where
        lone : (q : Spot) (ys : List ℕ) (t : Record) → IsOfRecords q → (p ≡ q → ⊥) → IsShownAt images q ys → Contains (leaf_records ys) t → ClashAt p q x t → ⊥
        lone q ys t of_q differ shown two (inl k) = once.between p q old ys f.before t of of_q differ (lies image p is found here) shown there two (inl (sym f.number ∙ ap (λ (y : Record). y.number) (sym e) ∙ k))
        lone q ys t of_q differ shown two (inr (same, inl k)) = (free.1 image p is found of).each q ys t of_q differ same shown two (ap (λ (y : Record). y.name) (sym e) ∙ k)
        lone q ys t of_q differ shown two (inr (same, inr (inl k))) = once.between p q old ys f.before t of of_q differ (lies image p is found here) shown there two (inl (sym f.number ∙ ap (λ (y : Record). y.number) (sym e) ∙ k))
        lone q ys t of_q differ shown two (inr (same, inr (inr k))) = once.between p q old ys f.before t of of_q differ (lies image p is found here) shown there two (inr (same, inr (inr (sym f.slot ∙ ap (λ (y : Record). y.slot) (sym e) ∙ k))))

    pub changed_once : MayComeOnce leaf new old images
    changed_once = record {
      distinct = λ image p is found here of.
          let d = all_distinct image p is found here of in
          record { are = subst Distinct (sym (leaf_is_read (without name rs ++ r ∷ []) new now)) (distinct_more (without name rs) r (left_distinct s d) (alone s was now f d names_here)) };
      beside = λ image p x is found here of has. by image p x is found here of bears (was_or_new s was now f x has);
    }
