-- What is said of the names of a directory, once all its leaves were read.
use Rattle.std.proofs.Common.{◌≡◌, ◌≢◌, ◌⊎◌, ⊎_elim, inl, inr, ℕ, zero, suc, Bool, false, ◌+◌, ◌-◌, ◌*◌, ◌^◌, ◌<◌, ◌≤◌, List, [], ◌∷◌, ◌++◌, map, length, length-append, get_or, refl, sym, ap, ◌∙◌, subst, arith, Option, Some, None, MatchOption}
use Rattle.std.specs.Prelude.{cond}
use Rattle.std.specs.List.{AllByRecursion}
use Rattle.std.proofs.lemmas.Bool.{cases_eq, cases_lt}
use Rattle.std.proofs.lemmas.List.{length-map, get_or_at, get_or_append_left, get_or-append-add, get_or-map}
use Rattle.fo_image.specs.declared.record.Record.{Record}
use Rattle.fo_image.specs.declared.types.Kind.{Kind}
use Rattle.fo_image.specs.declared.types.Kind.TheVariants.{Data, Dir}
use Rattle.fo_image.specs.declared.types.Score.{Score}
use Rattle.fo_image.specs.declared.types.Pointer.{Pointer}
use Rattle.fo_image.specs.declared.types.Pointer.TheVariants.{Nil, Local, Score as Held}
use Rattle.fo_crash.specs.declared.slot.Slot.{Slot}
use Rattle.fo_crash.specs.Images.{Content, Image, Arena, Link, target, meant, goes, leaf_path, depth_of, bytes_at, nothing}
use Rattle.fo_meta.specs.Leaf.{IsLeaf, SpellsLeaf}
use Rattle.fo_good.specs.Trees.{Lists, size_of}
use Rattle.fo_good.specs.Sound.{Kept}
use Rattle.fo_good.proofs.Leaf.{leaf_is_read}
use Rattle.fo_check_names.specs.Names.{named_in, name_of, slot_of, leaf_of, Differ, IsTwice}
use Rattle.fo_check_names.specs.declared.names.Named.{Named}
use Rattle.fo_check_labels.specs.declared.labels.Known.{Known}
use Rattle.fo_check_tree.specs.Answer.{StandsAlone, HasOwnNames, HasOwnSlots, HasNameTwice, HasSlotTwice}
use Rattle.fo_check_tree.specs.Listing.{SomeOf, Leaf, IsLeafIn, all_named, Apart, IsInSource, IsListing, JudgesNames, IsMetaOf}
use Rattle.fo_check_tree.specs.declared.broken.Broken.{Broken}
use Rattle.fo_check_tree.specs.declared.walk.Folder.{Folder}
use Rattle.fo_check_tree.specs.declared.walk.Holds.TheVariants.{Records}
use Rattle.fo_check_tree.specs.declared.walk.Step.{Step}
use Rattle.fo_check_tree.specs.Lower.{level}
use Rattle.fo_check_tree.specs.Notes.{NotesLeaf}
use Rattle.fo_check_tree.specs.Pairing.{IsNamedIn, IsListedAt}
use Rattle.fo_check_tree.specs.Slots.{top_step}
use Rattle.fo_check_tree.proofs.Leaves.{way_same}
use Rattle.fo_check_tree.proofs.Levels.{level-lower}
use Rattle.fo_check_tree.proofs.Paths.{found_is}

-- ---- a place in a list of leaves

record Split (xs : List Record) (j : ℕ) (r : Record) : Type 0 where
  before : List Record
  after : List Record
  is : xs ≡ before ++ r ∷ after
  count : length before ≡ j

split_at : (xs : List Record) (j : ℕ) → j < length xs → (r : Record) × Split xs j r
split_at [] j lt = absurd (omega (arith, lt))
split_at (x ∷ xs) zero lt = (x, record { before = []; after = xs; is = refl; count = refl })
split_at (x ∷ xs) (suc j) lt =
    let s = split_at xs j (omega (arith, lt)) in
    (s.0, record { before = x ∷ s.1.before; after = s.1.after; is = ap (λ (ys : List Record). x ∷ ys) s.1.is; count = ap suc s.1.count })

record IsHere (u : Leaf) (us : List Leaf) (p : ℕ) (v : Leaf) (j : ℕ) (r : Record) : Type 0 where
  is : v ≡ u
  place : p ≡ length (all_named us) + j
  split : Split u.records j r

-- record j of a leaf of the list is named at place p
abbrev At : List Leaf → ℕ → Leaf → ℕ → Record → Type 0
At [] p v j r = ⊥
At (u ∷ us) p v j r = IsHere u us p v j r ⊎ At us p v j r

long : (u : Leaf) (us : List Leaf) → length (all_named (u ∷ us)) ≡ length (all_named us) + length u.records
long u us =
    let a : length (all_named us ++ map (named_in u.block) u.records) ≡ length (all_named us) + length (map (named_in u.block) u.records) = length-append (all_named us) (map (named_in u.block) u.records) in
    let b : length (map (named_in u.block) u.records) ≡ length u.records = length-map u.records (named_in u.block) in
    omega (arith, a, b)

within_split : (xs : List Record) (j : ℕ) (r : Record) → Split xs j r → j < length xs
within_split xs j r s =
    let a : length xs ≡ length s.before + length (r ∷ s.after) = ap (λ (ys : List Record). length ys) s.is ∙ length-append s.before (r ∷ s.after) in
    omega (arith, a, s.count)

low : (us : List Leaf) (p : ℕ) (v : Leaf) (j : ℕ) (r : Record) → At us p v j r → p < length (all_named us)
low [] p v j r w = absurd w
low (u ∷ us) p v j r w = ⊎_elim
    (λ (h : IsHere u us p v j r). omega (arith, long u us, h.place, within_split u.records j r h.split))
    (λ (h : At us p v j r). omega (arith, long u us, low us p v j r h))
    w

name_at : (us : List Leaf) (p : ℕ) (v : Leaf) (j : ℕ) (r : Record) → At us p v j r → (d : Named) → get_or (all_named us) p d ≡ named_in v.block r
name_at [] p v j r w d = absurd w
name_at (u ∷ us) p v j r w d = ⊎_elim
    (λ (h : IsHere u us p v j r).
    let at : get_or u.records j r ≡ r = ap (λ (xs : List Record). get_or xs j r) h.split.is ∙ get_or_at h.split.before r h.split.after r j h.split.count in
    ap (λ (n : ℕ). get_or (all_named (u ∷ us)) n d) h.place
    ∙ get_or-append-add (all_named us) (map (named_in u.block) u.records) j d
    ∙ get_or-map (named_in u.block) u.records j r d (within_split u.records j r h.split)
    ∙ ap (λ (x : Record). named_in u.block x) at
    ∙ ap (λ (x : Leaf). named_in x.block r) (sym h.is))
    (λ (h : At us p v j r). get_or_append_left (all_named us) (map (named_in u.block) u.records) d p (low us p v j r h) ∙ name_at us p v j r h d)
    w

record Found (us : List Leaf) (p : ℕ) : Type 0 where
  leaf : Leaf
  place : ℕ
  named : Record
  at : At us p leaf place named

find : (us : List Leaf) (p : ℕ) → p < length (all_named us) → Found us p
find [] p lt = absurd (omega (arith, lt))
find (u ∷ us) p lt = ⊎_elim
    (λ (less : p < length (all_named us)). let f = find us p less in record { leaf = f.leaf; place = f.place; named = f.named; at = inr f.at })
    (λ (ge : length (all_named us) ≤ p).
    let s = split_at u.records (p - length (all_named us)) (omega (arith, lt, ge, long u us)) in
    record { leaf = u; place = p - length (all_named us); named = s.0; at = inl (record { is = refl; place = omega (arith, ge); split = s.1 }) })
    (cases_lt p (length (all_named us)))

member : (P : Leaf → Type 0) (us : List Leaf) (p : ℕ) (v : Leaf) (j : ℕ) (r : Record) → AllByRecursion P us → At us p v j r → P v
member P [] p v j r all w = absurd w
member P (u ∷ us) p v j r all w = ⊎_elim
    (λ (h : IsHere u us p v j r). subst (λ (x : Leaf). P x) (sym h.is) all.0)
    (λ (h : At us p v j r). member P us p v j r all.1 h)
    w

split_of : (us : List Leaf) (p : ℕ) (v : Leaf) (j : ℕ) (r : Record) → At us p v j r → Split v.records j r
split_of [] p v j r w = absurd w
split_of (u ∷ us) p v j r w = ⊎_elim
    (λ (h : IsHere u us p v j r). subst (λ (x : Leaf). Split x.records j r) (sym h.is) h.split)
    (λ (h : At us p v j r). split_of us p v j r h)
    w

one_leaf : (us : List Leaf) (p : ℕ) (v : Leaf) (j : ℕ) (r : Record) (u : Leaf) (i : ℕ) (q : Record) → At us p v j r → At us p u i q → (v ≡ u) × (j ≡ i)
one_leaf [] p v j r u i q a b = absurd a
one_leaf (x ∷ us) p v j r u i q a b = ⊎_elim
    (λ (h : IsHere x us p v j r). ⊎_elim
    (λ (g : IsHere x us p u i q). (h.is ∙ sym g.is, omega (arith, h.place, g.place)))
    (λ (g : At us p u i q). absurd (omega (arith, h.place, low us p u i q g))) b)
    (λ (h : At us p v j r). ⊎_elim
    (λ (g : IsHere x us p u i q). absurd (omega (arith, g.place, low us p v j r h)))
    (λ (g : At us p u i q). one_leaf us p v j r u i q h g) b)
    a

two_places : (us : List Leaf) → Apart us → (p : ℕ) (v : Leaf) (j : ℕ) (r : Record) (o : ℕ) (u : Leaf) (i : ℕ) (q : Record) → At us p v j r → At us o u i q → p ≢ o → v.block ≡ u.block → j ≢ i
two_places [] apart p v j r o u i q a b other same e = absurd a
two_places (x ∷ us) apart p v j r o u i q a b other same e = ⊎_elim
    (λ (h : IsHere x us p v j r). ⊎_elim
    (λ (g : IsHere x us o u i q). other (omega (arith, h.place, g.place, e)))
    (λ (g : At us o u i q). member (λ (w : Leaf). w.block ≡ x.block → ⊥) us o u i q apart.0 g (sym same ∙ ap (λ (w : Leaf). w.block) h.is)) b)
    (λ (h : At us p v j r). ⊎_elim
    (λ (g : IsHere x us o u i q). member (λ (w : Leaf). w.block ≡ x.block → ⊥) us p v j r apart.0 h (same ∙ ap (λ (w : Leaf). w.block) g.is))
    (λ (g : At us o u i q). two_places us apart.1 p v j r o u i q h g other same e) b)
    a

-- ---- the leaves of a source

module _ (arena : Arena) (image : Image) (empty : (kind : Kind) (score : Score) → arena kind score ≡ nothing) (k : Kept) (meta : Link) where
  bytes_of : (n at : ℕ) → target ((goes arena image meta (leaf_path meta.slot n)).slot) ≡ Local at → bytes_at arena image meta (leaf_path meta.slot n) ≡ (image at).bytes
  bytes_of n at e = ap (λ (c : Content). c.bytes) (found_is arena image (goes arena image meta (leaf_path meta.slot n)) at e)

  -- A leaf that spells records is in a block.
  pub in_block : (rs : List Record) (n : ℕ) → SpellsLeaf rs (bytes_at arena image meta (leaf_path meta.slot n)) → (at : ℕ) × (target ((goes arena image meta (leaf_path meta.slot n)).slot) ≡ Local at)
  in_block rs n spelled = by (target ((goes arena image meta (leaf_path meta.slot n)).slot)) refl
    where
      none' : (bytes : List ℕ) → bytes_at arena image meta (leaf_path meta.slot n) ≡ bytes → bytes ≡ [] → ⊥
      none' bytes is no' = let no = sym (is ∙ no') ∙ spelled.bytes_are in cc

      by : (p : Pointer) → target ((goes arena image meta (leaf_path meta.slot n)).slot) ≡ p → (at : ℕ) × (target ((goes arena image meta (leaf_path meta.slot n)).slot) ≡ Local at)
      by Nil e = absurd (none' _ refl (ap (λ (p : Pointer). (meant arena image (goes arena image meta (leaf_path meta.slot n)).kind p).bytes) e))
      by (Held x) e = absurd (none' _ refl (ap (λ (p : Pointer). (meant arena image (goes arena image meta (leaf_path meta.slot n)).kind p).bytes) e ∙ ap (λ (c : Content). c.bytes) (empty (goes arena image meta (leaf_path meta.slot n)).kind x)))
      by (Local a) e = (a, e)

  module _ (known : List Known) (named : List Named) (l : IsListing arena image k meta known [] named) where
    lists_at : (p : ℕ) (v : Leaf) (j : ℕ) (r : Record) → At l.leaves p v j r → Lists arena image meta v.index j r
    lists_at p v j r w =
        let h : IsLeafIn arena image meta v = member (IsLeafIn arena image meta) l.leaves p v j r l.right w in
        let s : Split v.records j r = split_of l.leaves p v j r w in
        let leads : target ((goes arena image meta (leaf_path meta.slot v.index)).slot) ≡ Local v.block = ap (λ (q : List ℕ). target ((goes arena image meta q).slot)) h.path_is ∙ h.leads in
        record {
          within = h.within;
          before = s.before;
          after = s.after;
          spelled = subst (λ (rs : List Record). SpellsLeaf rs (bytes_at arena image meta (leaf_path meta.slot v.index))) s.is (subst (λ (b : List ℕ). SpellsLeaf v.records b) (sym (bytes_of v.index v.block leads)) h.spelled);
          place = s.count;
        }

    leads_at : (p : ℕ) (v : Leaf) (j : ℕ) (r : Record) → At l.leaves p v j r → target ((goes arena image meta (leaf_path meta.slot v.index)).slot) ≡ Local v.block
    leads_at p v j r w = let h : IsLeafIn arena image meta v = member (IsLeafIn arena image meta) l.leaves p v j r l.right w in ap (λ (q : List ℕ). target ((goes arena image meta q).slot)) h.path_is ∙ h.leads

    same_name : (p : ℕ) (v : Leaf) (j : ℕ) (r : Record) → At l.leaves p v j r → (d : Named) → get_or named p d ≡ named_in v.block r
    same_name p v j r w d = ap (λ (xs : List Named). get_or xs p d) l.named_is ∙ name_at l.leaves p v j r w d

    pub named_twice : (leaf : ℕ) → IsTwice name_of leaf_of named leaf → HasNameTwice arena image meta leaf
    named_twice leaf w =
        let size : length named ≡ length (all_named l.leaves) = ap (λ (xs : List Named). length xs) l.named_is in
        let f = find l.leaves w.first (omega (arith, w.before, size)) in
        let g = find l.leaves w.second (omega (arith, w.within, size)) in
        let d : Named = named_in 0 f.named in
        let block : g.leaf.block ≡ leaf = ap (λ (x : Named). x.leaf) (sym (same_name w.second g.leaf g.place g.named g.at d)) ∙ w.leaf_is d in
        record {
          leaf = g.leaf.index;
          place = g.place;
          other_leaf = f.leaf.index;
          other_place = f.place;
          one = g.named;
          other = f.named;
          first = lists_at w.second g.leaf g.place g.named g.at;
          second = lists_at w.first f.leaf f.place f.named f.at;
          same = ap (λ (x : Named). name_of x) (sym (same_name w.second g.leaf g.place g.named g.at d)) ∙ sym (w.same d) ∙ ap (λ (x : Named). name_of x) (same_name w.first f.leaf f.place f.named f.at d);
          apart = λ e.
              let a : Local f.leaf.block ≡ Local g.leaf.block = sym (leads_at w.first f.leaf f.place f.named f.at) ∙ ap (λ (n : ℕ). target ((goes arena image meta (leaf_path meta.slot n)).slot)) (sym e.0) ∙ leads_at w.second g.leaf g.place g.named g.at in
              let b : f.leaf.block ≡ g.leaf.block = cc in
              two_places l.leaves l.apart w.first f.leaf f.place f.named w.second g.leaf g.place g.named f.at g.at w.apart b (sym e.1);
          leads = leads_at w.second g.leaf g.place g.named g.at ∙ ap (λ (b : ℕ). Local b) block;
        }

    pub slot_twice : (leaf : ℕ) → IsTwice slot_of leaf_of named leaf → HasSlotTwice arena image meta leaf
    slot_twice leaf w =
        let size : length named ≡ length (all_named l.leaves) = ap (λ (xs : List Named). length xs) l.named_is in
        let f = find l.leaves w.first (omega (arith, w.before, size)) in
        let g = find l.leaves w.second (omega (arith, w.within, size)) in
        let d : Named = named_in 0 f.named in
        let block : g.leaf.block ≡ leaf = ap (λ (x : Named). x.leaf) (sym (same_name w.second g.leaf g.place g.named g.at d)) ∙ w.leaf_is d in
        record {
          leaf = g.leaf.index;
          place = g.place;
          other_leaf = f.leaf.index;
          other_place = f.place;
          one = g.named;
          other = f.named;
          first = lists_at w.second g.leaf g.place g.named g.at;
          second = lists_at w.first f.leaf f.place f.named f.at;
          same = ap (λ (x : Named). slot_of x) (sym (same_name w.second g.leaf g.place g.named g.at d)) ∙ sym (w.same d) ∙ ap (λ (x : Named). slot_of x) (same_name w.first f.leaf f.place f.named f.at d);
          apart = λ e.
              let a : Local f.leaf.block ≡ Local g.leaf.block = sym (leads_at w.first f.leaf f.place f.named f.at) ∙ ap (λ (n : ℕ). target ((goes arena image meta (leaf_path meta.slot n)).slot)) (sym e.0) ∙ leads_at w.second g.leaf g.place g.named g.at in
              let b : f.leaf.block ≡ g.leaf.block = cc in
              two_places l.leaves l.apart w.first f.leaf f.place f.named w.second g.leaf g.place g.named f.at g.at w.apart b (sym e.1);
          leads = leads_at w.second g.leaf g.place g.named g.at ∙ ap (λ (b : ℕ). Local b) block;
        }

    -- ---- each record is named

    record Place (n j : ℕ) (r : Record) : Type 0 where
      at : ℕ
      leaf : Leaf
      is : At l.leaves at leaf j r
      number : leaf.index ≡ n

    -- a leaf of the list that is at the path of another is that leaf
    module _ (n j at : ℕ) (r : Record) (h : Lists arena image meta n j r) (leads : target ((goes arena image meta (leaf_path meta.slot n)).slot) ≡ Local at) where
      record In (us : List Leaf) : Type 0 where
        place : ℕ
        leaf : Leaf
        is : At us place leaf j r
        number : leaf.index ≡ n

      whole_leaf : (v : Leaf) → IsLeafIn arena image meta v → v.path ≡ leaf_path meta.slot n → (v.index ≡ n) × Split v.records j r
      whole_leaf v w same =
          let number = (way_same (depth_of meta.slot) v.index n [] [] (omega (arith, w.within, l.room)) (omega (arith, h.within, l.room)) (w.path_is ∙ same)).0 in
          let a : Local v.block ≡ Local at = sym w.leads ∙ ap (λ (q : List ℕ). target ((goes arena image meta q).slot)) same ∙ leads in
          let block : v.block ≡ at = cc in
          let bytes : bytes_at arena image meta (leaf_path meta.slot n) ≡ (image v.block).bytes = bytes_of n at leads ∙ ap (λ (b : ℕ). (image b).bytes) (sym block) in
          let spelled : SpellsLeaf (h.before ++ r ∷ h.after) ((image v.block).bytes) = subst (λ (b : List ℕ). SpellsLeaf (h.before ++ r ∷ h.after) b) bytes h.spelled in
          let records : v.records ≡ h.before ++ r ∷ h.after = sym (leaf_is_read v.records ((image v.block).bytes) w.spelled) ∙ leaf_is_read (h.before ++ r ∷ h.after) ((image v.block).bytes) spelled in
          (number, record { before = h.before; after = h.after; is = records; count = h.place })

      in_list : (us : List Leaf) → AllByRecursion (IsLeafIn arena image meta) us → SomeOf (λ (v : Leaf). v.path ≡ leaf_path meta.slot n) us → In us
      in_list [] all s = absurd s
      in_list (u ∷ us) all s = ⊎_elim
          (λ (same : u.path ≡ leaf_path meta.slot n). let w = whole_leaf u all.0 same in record { place = length (all_named us) + j; leaf = u; is = inl (record { is = refl; place = refl; split = w.1 }); number = w.0 })
          (λ (t : SomeOf (λ (v : Leaf). v.path ≡ leaf_path meta.slot n) us). let f = in_list us all.1 t in record { place = f.place; leaf = f.leaf; is = inr f.is; number = f.number })
          s

    place_of : (n j : ℕ) (r : Record) → Lists arena image meta n j r → StandsAlone arena image k meta n → Place n j r
    place_of n j r h b =
        let leaf : IsLeaf ((image b.block).bytes) = record { records = h.before ++ r ∷ h.after; spells = subst (λ (x : List ℕ). SpellsLeaf (h.before ++ r ∷ h.after) x) (bytes_of n b.block b.leads) h.spelled } in
        ⊎_elim
        (λ (none' : ⊥). absurd none')
        (λ (s : SomeOf (λ (v : Leaf). v.path ≡ leaf_path meta.slot n) l.leaves). let f = in_list n j b.block r h b.leads l.leaves l.right s in record { at = f.place; leaf = f.leaf; is = f.is; number = f.number })
        (l.whole n b.block (record { within = h.within; leads = b.leads; leaf = leaf }) b.alone)

    own : {K : Type 0} (of : Record → K) → Differ (λ (x : Named). of x.listed) named → (n j m i : ℕ) (r q : Record) → Lists arena image meta n j r → Lists arena image meta m i q → StandsAlone arena image k meta n → StandsAlone arena image k meta m → of r ≡ of q → (n ≡ m) × (j ≡ i)
    own of w n j m i r q h g ah ag same =
        let a = place_of n j r h ah in
        let b = place_of m i q g ag in
        let d : Named = named_in 0 r in
        let size : length named ≡ length (all_named l.leaves) = ap (λ (xs : List Named). length xs) l.named_is in
        let ra : get_or named a.at d ≡ named_in a.leaf.block r = same_name a.at a.leaf j r a.is d in
        let rb : get_or named b.at d ≡ named_in b.leaf.block q = same_name b.at b.leaf i q b.is d in
        let keys : of (get_or named a.at d).listed ≡ of (get_or named b.at d).listed = ap (λ (x : Named). of x.listed) ra ∙ same ∙ sym (ap (λ (x : Named). of x.listed) rb) in
        ⊎_elim
        (λ (less : a.at < b.at). absurd (w.each a.at b.at d less (omega (arith, size, low l.leaves b.at b.leaf i q b.is)) keys))
        (λ (ge : b.at ≤ a.at). ⊎_elim
        (λ (eq : a.at ≡ b.at).
        let o = one_leaf l.leaves a.at a.leaf j r b.leaf i q a.is (subst (λ (p : ℕ). At l.leaves p b.leaf i q) (sym eq) b.is) in
        (sym a.number ∙ ap (λ (v : Leaf). v.index) o.0 ∙ b.number, o.1))
        (λ (apart : a.at ≢ b.at). absurd (w.each b.at a.at d (omega (arith, ge, apart)) (omega (arith, size, low l.leaves a.at a.leaf j r a.is)) (sym keys)))
        (cases_eq a.at b.at))
        (cases_lt a.at b.at)

    pub own_names : Differ name_of named → HasOwnNames arena image k meta
    own_names w = record { each = own (λ (r : Record). r.name) w }

    pub own_slots : Differ slot_of named → HasOwnSlots arena image k meta
    own_slots w = record { each = own (λ (r : Record). r.slot) w }

    pub fresh : (i : ℕ) (d : Named) → i < length named → (get_or named i d).found ≡ false
    fresh i d lt =
        let size : length named ≡ length (all_named l.leaves) = ap (λ (xs : List Named). length xs) l.named_is in
        let f = find l.leaves i (omega (arith, lt, size)) in
        ap (λ (x : Named). x.found) (same_name i f.leaf f.place f.named f.at d)

    pub unmissed : (i : ℕ) (d : Named) → i < length named → (get_or named i d).missed ≡ false
    unmissed i d lt =
        let size : length named ≡ length (all_named l.leaves) = ap (λ (xs : List Named). length xs) l.named_is in
        let f = find l.leaves i (omega (arith, lt, size)) in
        ap (λ (x : Named). x.missed) (same_name i f.leaf f.place f.named f.at d)

    here_at : (i : ℕ) → i < length named → Found l.leaves i
    here_at i lt = find l.leaves i (omega (arith, lt, ap (λ (xs : List Named). length xs) l.named_is))

    pub spot_of : (i : ℕ) → (i < length named) ⊎ (length named ≤ i) → ℕ
    spot_of i (inl lt) = (here_at i lt).place
    spot_of i (inr ge) = 0

    abbrev pub spot : ℕ → ℕ
    spot i = spot_of i (cases_lt i (length named))

    stands_by : (i : ℕ) (d : Named) → i < length named → (c : (i < length named) ⊎ (length named ≤ i)) → IsListedAt arena image meta (spot_of i c) (get_or named i d)
    unfolding spot_of
    stands_by i d lt (inl lt') =
        let f = here_at i lt' in
        let is : named_in f.leaf.block f.named ≡ get_or named i d = sym (same_name i f.leaf f.place f.named f.at d) in
        record {
          leaf = f.leaf.index;
          lists = subst (λ (x : Named). Lists arena image meta f.leaf.index f.place x.listed) is (lists_at i f.leaf f.place f.named f.at);
          leads = leads_at i f.leaf f.place f.named f.at ∙ ap (λ (x : Named). Local x.leaf) is;
        }
    stands_by i d lt (inr ge) = absurd (omega (arith, lt, ge))

    pub stands : (i : ℕ) (d : Named) → i < length named → IsListedAt arena image meta (spot i) (get_or named i d)
    stands i d lt = stands_by i d lt (cases_lt i (length named))

    apart_by : (i j : ℕ) (d : Named) → (i ≡ j → ⊥) → (get_or named i d).leaf ≡ (get_or named j d).leaf → i < length named → j < length named → (c : (i < length named) ⊎ (length named ≤ i)) (e : (j < length named) ⊎ (length named ≤ j)) → spot_of i c ≡ spot_of j e → ⊥
    unfolding spot_of
    apart_by i j d other same li lj (inl lt) (inl lt') h =
        let f = here_at i lt in
        let g = here_at j lt' in
        let block : f.leaf.block ≡ g.leaf.block = sym (ap (λ (x : Named). x.leaf) (same_name i f.leaf f.place f.named f.at d)) ∙ same ∙ ap (λ (x : Named). x.leaf) (same_name j g.leaf g.place g.named g.at d) in
        two_places l.leaves l.apart i f.leaf f.place f.named j g.leaf g.place g.named f.at g.at other block h
    apart_by i j d other same li lj (inl lt) (inr ge) h = absurd (omega (arith, lj, ge))
    apart_by i j d other same li lj (inr ge) e h = absurd (omega (arith, li, ge))

    pub stand_apart : (i j : ℕ) (d : Named) → i < length named → j < length named → (i ≡ j → ⊥) → (get_or named i d).leaf ≡ (get_or named j d).leaf → spot i ≡ spot j → ⊥
    stand_apart i j d li lj other same h = apart_by i j d other same li lj (cases_lt i (length named)) (cases_lt j (length named)) h

    pub is_named : (n j : ℕ) (r : Record) → Lists arena image meta n j r → StandsAlone arena image k meta n → IsNamedIn named r
    is_named n j r h alone =
        let a = place_of n j r h alone in
        let size : length named ≡ length (all_named l.leaves) = ap (λ (xs : List Named). length xs) l.named_is in
        record { at = a.at; within = omega (arith, size, low l.leaves a.at a.leaf j r a.is); is = λ d. ap (λ (x : Named). x.listed) (same_name a.at a.leaf j r a.is d) }

    pub judged : (o : Option ℕ) → MatchOption o (Differ name_of named) (IsTwice name_of leaf_of named) → JudgesNames arena image k meta o
    judged None w = own_names w
    judged (Some leaf) w = named_twice leaf w

-- ---- before any leaf was read

module _ (arena : Arena) (image : Image) (k : Kept) (f : Folder) (meta : Link) (w : IsMetaOf f meta) (known : List Known) where
  abbrev top : Step
  top = top_step w.entry Records f.holder

  deep : depth_of meta.slot ≡ w.entry.depth
  deep = ap depth_of w.slot

  wide : size_of meta.slot ≡ w.entry.size
  wide = ap size_of w.slot

  top_source : IsInSource arena image meta top
  top_source = record {
    path = [];
    level = w.entry.depth;
    kind = ap (λ (d : Bool). cond d (Dir w.entry.depth) (Data w.entry.depth)) w.file;
    pointer = sym (ap target w.slot);
    depth = omega (arith, deep);
    index = λ more. refl;
    few = omega arith;
    size = sym wide;
    holds = refl;
  }

  pub begins : IsListing arena image k meta known (top ∷ []) []
  unfolding top_source
  begins = record {
    room = subst (λ (s : Slot). size_of s ≤ 8192 * 409 ^ depth_of s) (sym w.slot) w.room;
    shallow = subst (λ (s : Slot). depth_of s ≤ 4) (sym w.slot) w.shallow;
    leaves = [];
    named_is = refl;
    right = tt;
    seen = tt;
    apart = tt;
    sources = (top_source, tt);
    whole = λ n at h alone. inl (inl (record { source = top_source; more = leaf_path meta.slot n; is = refl }));
  }

-- Where no rule up to 5 is noted, no name stood twice.
pub names_by : (arena : Arena) (image : Image) (k : Kept) (meta : Link) (o : Option ℕ) (old new : Option Broken) → JudgesNames arena image k meta o → NotesLeaf 5 o old new → 5 < level new → HasOwnNames arena image k meta
names_by arena image k meta None old new j is quiet = j
names_by arena image k meta (Some leaf) old new j is quiet = absurd (omega (arith, quiet, (level-lower old 5 leaf (omega arith)).1, ap level is))
