-- What an image lists in the leaves of a directory that is whole.
use Rattle.std.proofs.Common.{◌≡◌, ◌≢◌, inl, inr, ⊎_elim, ℕ, suc, ◌+◌, ◌*◌, ◌/◌, ◌%◌, ◌^◌, ◌<◌, List, [], ◌∷◌, ◌++◌, length, refl, sym, ◌∙◌, ap, subst, arith}
use Rattle.std.specs.List.{Contains}
use Rattle.std.proofs.lemmas.Bool.{cases_eq}
use Rattle.std.proofs.lemmas.List.Elements.{Contains-append_right}
use Rattle.fo_image.specs.declared.record.Record.{Record}
use Rattle.fo_image.specs.declared.types.Pointer.TheVariants.{Local}
use Rattle.fo_crash.specs.Images.{Image, Arena, Link, IsArena, target, meant, goes, step, bytes_at, depth_of, leaf_path, entry_of, to_block}
use Rattle.fo_meta.specs.Leaf.{SpellsLeaf}
use Rattle.fo_good.specs.Reading.{leaf_records}
use Rattle.fo_good.specs.Trees.{IsDir, IsFirst, IsSecond, Lists, HasPairs}
use Rattle.fo_good.proofs.Leaf.{leaf_is_read}
use Rattle.fo_ports.specs.State.{State}
use Rattle.fo_dir_put.specs.Differ.{Distinct}
use Rattle.fo_dir_put.specs.Names.{Clash}
use Rattle.fo_dir_put.specs.There.{IsThere}
use Rattle.fo_dir_images.specs.Leaves.{Entries, Records, IsLeafOf}
use Rattle.fo_dir_images.specs.Whole.{IsWholeDir, HasEntries, ShowsDir, IsCovered}
use Rattle.fo_dir_images.proofs.Trailing.{slot_of, entry_is}
use Rattle.fo_dir_images.proofs.Same.{IsShown, HasLaws, same_leaf, lone_leaf, reads_dirs}

-- ---- places of records

clash_back : (r q : Record) → Clash r q → Clash q r
clash_back r q (inl e) = inl (sym e)
clash_back r q (inr (inl e)) = inr (inl (sym e))
clash_back r q (inr (inr e)) = inr (inr (sym e))

head_is : {r q : Record} {xs ys : List Record} → r ∷ xs ≡ q ∷ ys → r ≡ q
head_is e = cc

rest_is : {r q : Record} {xs ys : List Record} → r ∷ xs ≡ q ∷ ys → xs ≡ ys
rest_is e = cc

contains_mid : (before after : List Record) (r : Record) → Contains (before ++ r ∷ after) r
contains_mid before after r = Contains-append_right before (r ∷ after) r (0, omega arith, refl)

-- records that clash, of distinct ones, stand at one place
pub same_place : (before other : List Record) (r q : Record) (after rest : List Record) → before ++ r ∷ after ≡ other ++ q ∷ rest → Distinct (before ++ r ∷ after) → Clash r q → length before ≡ length other
same_place [] [] r q after rest e d clash = refl
same_place [] (x ∷ other) r q after rest e d clash = absurd (d.0 q (subst (λ xs. Contains xs q) (sym (rest_is e)) (contains_mid other rest q)) clash)
same_place (x ∷ before) [] r q after rest e d clash = absurd (d.0 r (contains_mid before after r) (subst (λ y. Clash y r) (sym (head_is e)) (clash_back r q clash)))
same_place (x ∷ before) (y ∷ other) r q after rest e d clash = ap suc (same_place before other r q after rest (rest_is e) d.1 clash)

-- ---- a leaf of a link

-- leaf n of the source of a link is this block
pub record IsAt (arena : Arena) (image : Image) (w : Link) (n b : ℕ) : Type 0 where
  pub room : n < 409 ^ depth_of w.slot
  pub leads : target ((goes arena image w (leaf_path w.slot n)).slot) ≡ Local b

moved : {arena : Arena} {image : Image} {v w : Link} {n b : ℕ} → v ≡ w → IsAt arena image v n b → IsAt arena image w n b
moved {arena} {image} {v} {w} {n} {b} e h = subst (λ x. IsAt arena image x n b) e h

-- the records that are listed in a leaf are those of its block
pub listed : {arena : Arena} {image : Image} {meta : Link} {k j b : ℕ} {r : Record} → IsAt arena image meta k b → (l : Lists arena image meta k j r) → leaf_records ((image b).bytes) ≡ l.before ++ r ∷ l.after
listed {arena} {image} {meta} {k} {j} {b} {r} at l =
    let bytes : bytes_at arena image meta (leaf_path meta.slot k) ≡ (image b).bytes = ap (λ p. (meant arena image (goes arena image meta (leaf_path meta.slot k)).kind p).bytes) at.leads in
    leaf_is_read (l.before ++ r ∷ l.after) ((image b).bytes) (subst (λ x. SpellsLeaf (l.before ++ r ∷ l.after) x) bytes l.spelled)

pub contained : {arena : Arena} {image : Image} {meta : Link} {k j b : ℕ} {r : Record} → IsAt arena image meta k b → Lists arena image meta k j r → Contains (leaf_records ((image b).bytes)) r
contained {r = r} at l = subst (λ xs. Contains xs r) (sym (listed at l)) (contains_mid l.before l.after r)

-- an entry stands in its leaf
entry_in : (arena : Arena) (image : Image) (w : Link) (m e j i : ℕ) → j / 204 ≡ m → j % 204 ≡ i → IsAt arena image w m e → (entry_of arena image w j).slot ≡ (image e).slot i
entry_in arena image w m e j i leaf place at =
    ap (λ (x : Link). x.slot) (entry_is arena image w j)
    ∙ ap (λ x. (step arena image (goes arena image w (leaf_path w.slot x)) (j % 204)).slot) leaf
    ∙ ap (λ x. (step arena image (goes arena image w (leaf_path w.slot m)) x).slot) place
    ∙ slot_of arena image (goes arena image w (leaf_path w.slot m)) i at.leads

first_leaf : (pair : ℕ) → 2 * pair / 204 ≡ pair / 102
first_leaf pair = omega arith

first_place : (pair : ℕ) → 2 * pair % 204 ≡ 2 * (pair % 102)
first_place pair = omega arith

second_leaf : (pair : ℕ) → (2 * pair + 1) / 204 ≡ pair / 102
second_leaf pair = omega arith

second_place : (pair : ℕ) → (2 * pair + 1) % 204 ≡ 2 * (pair % 102) + 1
second_place pair = omega arith

-- ---- a directory of an image

module _ {s : State} {arena : Arena} {image : Image} (laws : HasLaws s) (shown : IsShown s image) (is : IsArena arena) (root : ℕ) (named : (image 1).slot 0 ≡ to_block root) (count : ℕ) (trail leaves : List ℕ) (whole : IsWholeDir arena s (IsThere s) trail count leaves) (entries meta : Link) (dir : IsDir arena image root trail entries meta) where
  leaf_at : (k b : ℕ) → IsThere s b → IsLeafOf Records arena s.now s.root trail k b → IsAt arena image meta k b
  leaf_at k b there leaf =
      let here = same_leaf {s = s} {arena = arena} {image = image} Records root k b trail laws shown is named there leaf in
      moved ((reads_dirs arena image root).each trail entries meta dir).1 (record { room = here.room; leads = here.leads })

  entries_at : (m e : ℕ) → IsThere s e → IsLeafOf Entries arena s.now s.root trail m e → IsAt arena image entries m e
  entries_at m e there leaf =
      let here = same_leaf {s = s} {arena = arena} {image = image} Entries root m e trail laws shown is named there leaf in
      moved ((reads_dirs arena image root).each trail entries meta dir).0 (record { room = here.room; leads = here.leads })

  pub pair_fits : (k j : ℕ) (r : Record) → Lists arena image meta k j r → k < count → HasEntries arena image entries r
  pair_fits k j r l lt = ⊎_elim
      (λ p.
      let at = entries_at (r.slot / 102) p.0 p.2 p.1 in
      let both = (p.3.each image shown.leaves r in_leaf refl).0 in
      record {
        room = at.room;
        first = subst (λ x. IsFirst x r) (sym (entry_in arena image entries (r.slot / 102) p.0 (2 * r.slot) (2 * (r.slot % 102)) (first_leaf r.slot) (first_place r.slot) at)) both.first;
        second = subst (λ x. IsSecond x r) (sym (entry_in arena image entries (r.slot / 102) p.0 (2 * r.slot + 1) (2 * (r.slot % 102) + 1) (second_leaf r.slot) (second_place r.slot) at)) both.second;
      })
      (λ none. absurd ((none image (r.slot % 102) shown.leaves).each r in_leaf refl refl))
      (whole.paired k (r.slot / 102) leaf.0 lt leaf.2)
    where
      leaf : (b : ℕ) × Contains leaves b × IsLeafOf Records arena s.now s.root trail k b × IsThere s b
      leaf = whole.each k lt

      in_leaf : Contains (leaf_records ((image leaf.0).bytes)) r
      in_leaf = contained (leaf_at k leaf.0 leaf.3 leaf.2) l

  pub pairs_differ : (k j m n : ℕ) (r q : Record) → Lists arena image meta k j r → Lists arena image meta m n q → k < count → m < count → Clash r q → (k ≡ m) × (j ≡ n)
  pairs_differ k j m n r q l t lk lm clash = ⊎_elim one two (cases_eq here.0 there.0)
    where
      here : (b : ℕ) × Contains leaves b × IsLeafOf Records arena s.now s.root trail k b × IsThere s b
      here = whole.each k lk

      there : (b : ℕ) × Contains leaves b × IsLeafOf Records arena s.now s.root trail m b × IsThere s b
      there = whole.each m lm

      at : IsAt arena image meta k here.0
      at = leaf_at k here.0 here.3 here.2

      to : IsAt arena image meta m there.0
      to = leaf_at m there.0 there.3 there.2

      one : here.0 ≡ there.0 → (k ≡ m) × (j ≡ n)
      one e =
          let same = (lone_leaf {s = s} {arena = arena} {image = s.now} Records Records s.root k m there.0 trail trail laws laws.now is laws.named (subst (λ b. IsLeafOf Records arena s.now s.root trail k b) e here.2) there.2).2 in
          let first = listed at l in
          let lists : l.before ++ r ∷ l.after ≡ t.before ++ q ∷ t.after = sym first ∙ ap (λ b. leaf_records ((image b).bytes)) e ∙ listed to t in
          let place = same_place l.before t.before r q l.after t.after lists (subst (λ xs. Distinct xs) first (whole.differ.within here.0 here.1 image shown.leaves).are) clash in
          (same, sym l.place ∙ place ∙ t.place)

      two : here.0 ≢ there.0 → (k ≡ m) × (j ≡ n)
      two ne = absurd ((whole.differ.between here.0 there.0 here.1 there.1 ne).each image image shown.leaves shown.leaves r q (contained at l) (contained to t) clash)

pub shows_dir : {s : State} {arena : Arena} {image : Image} (root count : ℕ) (trail leaves : List ℕ) → HasLaws s → IsShown s image → IsArena arena → (image 1).slot 0 ≡ to_block root → IsWholeDir arena s (IsThere s) trail count leaves → ShowsDir arena image root trail count
shows_dir {s} {arena} {image} root count trail leaves laws shown is named whole = record {
  fit = λ entries meta k j r dir l lt. pair_fits laws shown is root named count trail leaves whole entries meta dir k j r l lt;
  differ = λ entries meta k j m n r q dir l t lk lm clash. pairs_differ laws shown is root named count trail leaves whole entries meta dir k j m n r q l t lk lm clash;
}

pub shows_pairs : {s : State} {arena : Arena} {image : Image} (root : ℕ) → HasLaws s → IsShown s image → IsArena arena → (image 1).slot 0 ≡ to_block root
    → ((trail : List ℕ) (entries meta : Link) → IsDir arena image root trail entries meta → IsCovered arena s image trail entries meta) → HasPairs arena image root
shows_pairs {s} {arena} {image} root laws shown is named covered = record {
  fit = λ trail entries meta k j r dir l.
      let c = covered trail entries meta dir in
      let fit = pair_fits laws shown is root named c.count trail c.leaves c.whole entries meta dir k j r l (c.lists k l.within) in
      record { within = c.reaches k j r l; first = fit.first; second = fit.second };
  differ = λ trail entries meta k j m n r q dir l t same.
      let c = covered trail entries meta dir in
      pairs_differ laws shown is root named c.count trail c.leaves c.whole entries meta dir k j m n r q l t (c.lists k l.within) (c.lists m t.within) (inr (inr same));
}
