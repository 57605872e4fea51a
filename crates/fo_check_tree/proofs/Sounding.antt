-- A sound tree breaks no rule, so no report names one.
use Rattle.std.proofs.Common.{◌≡◌, ◌≢◌, ◌⊎◌, ⊎_elim, inl, inr, ℕ, zero, suc, ◌+◌, ◌*◌, ◌/◌, ◌%◌, ◌<◌, ◌≤◌, Bool, true, false, List, [], ◌∷◌, ◌++◌, length, length-append, append-nil, append_assoc, Option, Some, None, MatchOption, refl, sym, ap, ◌∙◌, subst, arith}
use Rattle.std.specs.Prelude.{cond}
use Rattle.std.proofs.lemmas.Bool.{cases_eq, cases_lt, false≢true}
use Rattle.fo_disk.specs.Disk.{Block}
use Rattle.fo_image.specs.declared.types.Kind.{Kind}
use Rattle.fo_image.specs.declared.types.Kind.TheVariants.{Data, Dir, Root}
use Rattle.fo_image.specs.declared.types.Entry.{Entry}
use Rattle.fo_image.specs.declared.types.Label.{Label}
use Rattle.fo_image.specs.declared.types.Super.{Super}
use Rattle.fo_image.specs.declared.types.Score.{Score}
use Rattle.fo_image.specs.declared.types.Pointer.{Pointer}
use Rattle.fo_image.specs.declared.types.Pointer.TheVariants.{Nil, Local, Score as Held}
use Rattle.fo_image.specs.Format.{ActiveHolds}
use Rattle.fo_crash.specs.declared.slot.Slot.{Slot}
use Rattle.fo_crash.specs.declared.slot.Slot.TheVariants.{Pointer as To, Entry as Head}
use Rattle.fo_crash.specs.Images.{Content, Image, Arena, Link, target, goes, way, leaf_path, depth_of, found, kind_below, kind_of_top, from_block, step as link_below, entry_of as entry_at}
use Rattle.fo_sound.specs.Image.{block_of, HasLabel}
use Rattle.fo_sound.specs.Sound.{HasTable, root_label}
use Rattle.fo_good.specs.Means.{IsRead, AreEntries, ArePointers, HasEntry, IsRootBlock}
use Rattle.fo_good.specs.Trees.{HasLabelBelow, HoldsEntries, IsEntries, IsRecords, InTree, HasRecords, LeadsTo, at_path, place_along}
use Rattle.fo_good.specs.Trees.InTree.{top as tree_top, below as tree_below}
use Rattle.fo_good.specs.Trees.HasRecords.{top as records_root, pair as records_pair}
use Rattle.fo_good.specs.Sound.{Kept, IsSoundTree}
use Rattle.fo_check_tree.specs.declared.broken.Broken.{Broken}
use Rattle.fo_check_labels.specs.declared.error.TreeError.{TreeError}
use Rattle.fo_check_labels.specs.declared.error.TreeError.TheVariants.{Label as BadLabel, Read as BadRead, Memory}
use Rattle.fo_check_tree.specs.declared.tree.Found.{Found}
use Rattle.fo_check_tree.specs.Answer.{HoldsAny, HoldsRoot, AreRecordsOf, BreaksLabels, BreaksOnce, BreaksScores, BreaksFormats, BreaksPairs, BreaksNumbers, IsNamed, IsWalked, RefusesCheck}
use Rattle.fo_check_tree.specs.Answer.BreaksLabels.{outside as labels_outside, label as labels_label}
use Rattle.fo_check_tree.specs.Answer.BreaksOnce.{twice as once_twice}
use Rattle.fo_check_tree.specs.Answer.BreaksScores.{score as scores_score}
use Rattle.fo_check_tree.specs.Answer.BreaksFormats.{root as formats_root, block as formats_block, leaf as formats_leaf, names as formats_names}
use Rattle.fo_check_tree.specs.Answer.BreaksPairs.{root as pairs_root, lacks as pairs_lacks, twice as pairs_twice}
use Rattle.fo_check_tree.specs.Answer.BreaksNumbers.{deep as numbers_deep, outside as numbers_outside, twice as numbers_twice}
use Rattle.fo_check_labels.specs.Table.{BreaksTable}
use Rattle.fo_check_labels.specs.Table.BreaksTable.{label as table_label, other as table_other, rest as table_rest}
use Rattle.fo_check_tree.proofs.Leaves.{goes_join, lost}
use Rattle.fo_check_tree.specs.Slots.{HasSlots}
use Rattle.fo_check_tree.specs.Slots.HasSlot.{entry as slot_entry}
use Rattle.fo_crash.specs.declared.place.Place.{Place}
use Rattle.fo_crash.specs.Places.{place_below, root_place}
use Rattle.fo_check_tree.proofs.Paths.{goes_end, found_is, below_kind}
use Rattle.fo_check_tree.proofs.Spelled.{only_has}

nil_local : {a : ℕ} → Nil ≡ Local a → ⊥
nil_local e = cc

held_local : {x : Score} {a : ℕ} → Held x ≡ Local a → ⊥
held_local e = cc

nil_head : {e : Entry} → To Nil ≡ Head e → ⊥
nil_head e = cc

nil_cons : {a : ℕ} {p : List ℕ} → a ∷ p ≡ [] → ⊥
nil_cons e = cc

nil_top : (e : Entry) (active : Bool) → active ≡ false → ActiveHolds active e → e.top ≡ Nil
nil_top e true isnt h = absurd (false≢true (sym isnt))
nil_top e false isnt h = h.4

bool_is : (b : Bool) → (b ≡ true) ⊎ (b ≡ false)
bool_is true = inl refl
bool_is false = inr refl

-- ---- kinds

record IsData (kind : Kind) : Type 0 where
  level : ℕ
  is : kind ≡ Data level

data_step : (kind : Kind) (s : Slot) → IsData kind → IsData (kind_below kind s)
data_step kind s w = by w.level w.is
  where
    by : (level : ℕ) → kind ≡ Data level → IsData (kind_below kind s)
    by zero e = record { level = 0; is = ap (λ (d : Kind). kind_below d s) e }
    by (suc level) e = record { level = level; is = ap (λ (d : Kind). kind_below d s) e }

no_entries : (kind : Kind) → IsData kind → HoldsEntries kind → ⊥
no_entries kind w h = subst (λ (d : Kind). HoldsEntries d) w.is h

-- ---- the slots of a sound tree

place_kind : (arena : Arena) (image : Image) (path : List ℕ) (p : Place) (w : Link) → p.kind ≡ w.kind → (place_along arena image p w path).kind ≡ (goes arena image w path).kind
place_kind arena image [] p w e = e
place_kind arena image (i ∷ path) p w e = place_kind arena image path (place_below p i ((found arena image w).slot i)) (link_below arena image w i)
    (below_kind p i ((found arena image w).slot i) ∙ ap (λ (d : Kind). kind_below d ((found arena image w).slot i)) e)

slots_read : (kind : Kind) (c : Content) (bytes : Block) → IsRead kind c bytes → HasSlots kind c bytes
slots_read (Data zero) c bytes r = r.ends
slots_read (Data (suc level)) c bytes r = (r.each, r.ends)
slots_read (Dir zero) c bytes r = (λ i lt. slot_entry (r.each i lt), r.ends)
slots_read (Dir (suc level)) c bytes r = (r.each, r.ends)
slots_read Root c bytes r = tt

module _ (arena : Arena) (device : List Block) (image : Image) (s : Super) (k : Kept) (holds : HoldsRoot arena device image s k) (sound : IsSoundTree arena device image s.numbers true k) where
  record Labelled (path : List ℕ) (at : ℕ) : Type 0 where
    label : Label
    has : HasLabel device at label
    kind : label.kind ≡ (at_path arena image k.at path).kind

  block_at : (u : Link) (r : List ℕ) (c : ℕ) → target ((goes arena image u r).slot) ≡ Local c → (a : ℕ) × (target u.slot ≡ Local a)
  block_at u r c leads = by (target u.slot) refl
    where
      by : (p : Pointer) → target u.slot ≡ p → (a : ℕ) × (target u.slot ≡ Local a)
      by Nil e = absurd (lost arena image holds.empty r u (λ a x. nil_local (sym e ∙ x)) c leads)
      by (Held y) e = absurd (lost arena image holds.empty r u (λ a x. held_local (sym e ∙ x)) c leads)
      by (Local a) e = (a, e)

  kind_on : (q p : List ℕ) (a at : ℕ) → LeadsTo arena image k.at p a → Labelled p a → LeadsTo arena image k.at (p ++ q) at → Labelled (p ++ q) at
  kind_on [] p a at lp l leads =
      let same : Local at ≡ Local a = sym leads ∙ ap (λ (x : List ℕ). target ((at_path arena image k.at x).slot)) (append-nil p) ∙ lp in
      let eq : a ≡ at = cc in
      record { label = l.label; has = subst (λ (n : ℕ). HasLabel device n l.label) eq l.has; kind = l.kind ∙ ap (λ (x : List ℕ). (at_path arena image k.at x).kind) (sym (append-nil p)) }
  kind_on (i ∷ q) p a at lp l leads =
      let long : p ++ i ∷ q ≡ (p ++ i ∷ []) ++ q = sym (append_assoc p (i ∷ []) q) in
      let leads' : LeadsTo arena image k.at ((p ++ i ∷ []) ++ q) at = ap (λ (x : List ℕ). target ((at_path arena image k.at x).slot)) (sym long) ∙ leads in
      let b = block_at (at_path arena image k.at (p ++ i ∷ [])) q at (ap (λ (x : Link). target x.slot) (sym (goes_join arena image holds.empty (p ++ i ∷ []) q (from_block k.at))) ∙ leads') in
      let h = sound.labels.each p i a b.0 l.label lp l.has b.1 in
      subst (λ (x : List ℕ). Labelled x at) (sym long) (kind_on q (p ++ i ∷ []) b.0 at b.1
      (record { label = h.label; has = h.has; kind = h.may.kind ∙ place_kind arena image (p ++ i ∷ []) root_place (from_block k.at) refl }) leads')

  -- What is asked of the image is so where the tree is sound.
  pub holds_sound : HoldsAny arena device image s k
  holds_sound = record {
    empty = holds.empty;
    active = holds.active;
    at = holds.at;
    bytes = holds.bytes;
    slots = λ path at label leads place has.
        let l : Labelled path at = kind_on path [] k.at at refl (record { label = root_label s; has = subst (λ (n : ℕ). HasLabel device n (root_label s)) (sym holds.at) holds.active.label; kind = refl }) leads in
        let same : l.label ≡ label = only_has device at l.label label l.has has in
        let kind : (at_path arena image k.at path).kind ≡ label.kind = sym l.kind ∙ ap (λ (x : Label). x.kind) same in
        subst (λ (d : Kind). HasSlots d (image at) (block_of device at)) kind (slots_read ((at_path arena image k.at path).kind) (image at) (block_of device at) (sound.read.each path at leads));
    entries = holds.entries;
    meta = holds.meta;
    before = holds.before;
    ends = holds.ends;
  }

-- ---- a sound tree

module _ (arena : Arena) (device : List Block) (image : Image) (s : Super) (k : Kept) (holds : HoldsAny arena device image s k) (sound : IsSoundTree arena device image s.numbers true k) where
  data_goes : (q : List ℕ) (u : Link) → IsData u.kind → IsData ((goes arena image u q).kind)
  data_goes [] u w = w
  data_goes (i ∷ q) u w = data_goes q (link_below arena image u i) (data_step u.kind ((found arena image u).slot i) w)

  -- a link that leads on leads to a block
  local_at : (u : Link) (r : List ℕ) (c : ℕ) → target ((goes arena image u r).slot) ≡ Local c → (a : ℕ) × (target u.slot ≡ Local a)
  local_at u r c leads = by (target u.slot) refl
    where
      by : (p : Pointer) → target u.slot ≡ p → (a : ℕ) × (target u.slot ≡ Local a)
      by Nil e = absurd (lost arena image holds.empty r u (λ a x. nil_local (sym e ∙ x)) c leads)
      by (Held y) e = absurd (lost arena image holds.empty r u (λ a x. held_local (sym e ∙ x)) c leads)
      by (Local a) e = (a, e)

  -- ---- a place in a source of entries: its link, the path to it in the tree and in the source, and its number
  record Spot (d : ℕ) (w u : Link) (l : ℕ) : Type 0 where
    path : List ℕ
    front : List ℕ
    index : ℕ
    inside : InTree arena image k.at d w
    kind : w.kind ≡ Dir (depth_of w.slot)
    leads : at_path arena image k.at path ≡ u
    is : u ≡ goes arena image w front
    down : u.kind ≡ Dir l
    depth : length front + l ≡ depth_of w.slot
    number : (more : List ℕ) → way (length front) index more ≡ front ++ more

  read_at : (d : ℕ) (w u : Link) (l : ℕ) → Spot d w u l → (a : ℕ) → target u.slot ≡ Local a → IsRead (Dir l) (image a) (block_of device a)
  read_at d w u l v a e = subst (λ (x : Kind). IsRead x (image a) (block_of device a)) (ap (λ (x : Link). x.kind) v.leads ∙ v.down) (sound.read.each v.path a (ap (λ (x : Link). target x.slot) v.leads ∙ e))

  slot_is : (u : Link) (a i : ℕ) → target u.slot ≡ Local a → (link_below arena image u i).slot ≡ (image a).slot i
  slot_is u a i e = ap (λ (c : Content). c.slot i) (found_is arena image u a e)

  -- an entry of a leaf, by its number in the source
  entry_is : (d : ℕ) (w u : Link) (v : Spot d w u 0) (j i : ℕ) → j / 204 ≡ v.index → j % 204 ≡ i → entry_at arena image w j ≡ link_below arena image u i
  entry_is d w u v j i div rem =
      let full : length v.front ≡ depth_of w.slot = omega (arith, v.depth) in
      let path : leaf_path w.slot v.index ≡ v.front = ap (λ (x : ℕ). way x v.index []) (sym full) ∙ v.number [] ∙ append-nil v.front in
      ap (λ (x : ℕ). goes arena image w (leaf_path w.slot x ++ (j % 204) ∷ [])) div
      ∙ ap (λ (x : ℕ). goes arena image w (leaf_path w.slot v.index ++ x ∷ [])) rem
      ∙ ap (λ (x : List ℕ). goes arena image w (x ++ i ∷ [])) path
      ∙ goes_end arena image v.front w i ∙ ap (λ (x : Link). link_below arena image x i) (sym v.is)

  -- the spot below a slot of a block of pointers
  further : (d : ℕ) (w u : Link) (l i : ℕ) → i < 409 → Spot d w u (suc l) → Spot d w (link_below arena image u i) l
  further d w u l i lt v =
      let long : length (v.front ++ i ∷ []) ≡ length v.front + 1 = length-append v.front (i ∷ []) in
      let longer : length (v.front ++ i ∷ []) ≡ suc (length v.front) = omega (arith, long) in
      let div : (v.index * 409 + i) / 409 ≡ v.index = omega (arith, lt) in
      let rem : (v.index * 409 + i) % 409 ≡ i = omega (arith, lt) in
      record {
        path = v.path ++ i ∷ [];
        front = v.front ++ i ∷ [];
        index = v.index * 409 + i;
        inside = v.inside;
        kind = v.kind;
        leads = goes_end arena image v.path (from_block k.at) i ∙ ap (λ (x : Link). link_below arena image x i) v.leads;
        is = ap (λ (x : Link). link_below arena image x i) v.is ∙ sym (goes_end arena image v.front w i);
        down = ap (λ (x : Kind). kind_below x ((found arena image u).slot i)) v.down;
        depth = omega (arith, long, v.depth);
        number = λ more. ap (λ (x : ℕ). way x (v.index * 409 + i) more) longer
            ∙ ap (λ (x : ℕ). way (length v.front) x ((v.index * 409 + i) % 409 ∷ more)) div
            ∙ ap (λ (x : ℕ). way (length v.front) v.index (x ∷ more)) rem
            ∙ v.number (i ∷ more) ∙ sym (append_assoc v.front (i ∷ []) more);
      }

  -- the top of the source of an entry that names entries
  opened : (d : ℕ) (w u : Link) (i : ℕ) (e : Entry) → i < 204 → Spot d w u 0 → (link_below arena image u i).slot ≡ Head e → e.active ≡ true → e.dir ≡ true → (j : ℕ) × Spot (suc d) (entry_at arena image w j) (link_below arena image u i) e.depth
  opened d w u i e lt v slot active dir =
      let same : entry_at arena image w (v.index * 204 + i) ≡ link_below arena image u i = entry_is d w u v (v.index * 204 + i) i (omega (arith, lt)) (omega (arith, lt)) in
      let slot' : (entry_at arena image w (v.index * 204 + i)).slot ≡ Head e = ap (λ (x : Link). x.slot) same ∙ slot in
      let kind : (link_below arena image u i).kind ≡ Dir e.depth = ap (λ (x : Kind). kind_below x ((found arena image u).slot i)) v.down ∙ ap kind_of_top slot ∙ ap (λ (b : Bool). cond b (Dir e.depth) (Data e.depth)) dir in (
        v.index * 204 + i,
        record {
          path = v.path ++ i ∷ [];
          front = [];
          index = 0;
          inside = tree_below d w (v.index * 204 + i) v.inside (subst (λ (x : Slot). IsEntries x) (sym slot') (active, dir));
          kind = ap (λ (x : Link). x.kind) same ∙ kind ∙ ap (λ (x : Slot). Dir (depth_of x)) (sym slot');
          leads = goes_end arena image v.path (from_block k.at) i ∙ ap (λ (x : Link). link_below arena image x i) v.leads;
          is = sym same;
          down = kind;
          depth = let deep : depth_of (entry_at arena image w (v.index * 204 + i)).slot ≡ e.depth = ap depth_of slot' in omega (arith, deep);
          number = λ more. refl;
        },
      )

  module _ (first c : ℕ) (odd : (first + 1) % 2 ≡ 1) where
    -- what is at the end of the way: a pair that is a directory
    record IsPairAt (h : Link) : Type 0 where
      holder : HoldsEntries h.kind
      entries : IsEntries (link_below arena image h first).slot
      records : IsRecords (link_below arena image h (first + 1)).slot
      leads : target ((link_below arena image h (first + 1)).slot) ≡ Local c

    leads_to : (u : Link) (q : List ℕ) → IsPairAt (goes arena image u q) → (a : ℕ) × (target u.slot ≡ Local a)
    leads_to u q x = local_at u (q ++ (first + 1) ∷ []) c (ap (λ (v : Link). target v.slot) (goes_end arena image q u (first + 1)) ∙ x.leads)

    at_leaf : (d : ℕ) (w u : Link) → Spot d w u 0 → IsPairAt u → HasRecords arena image k.at (link_below arena image u (first + 1))
    at_leaf d w u v x =
        let a = leads_to u [] x in
        let read : AreEntries (image a.0) (block_of device a.0) = read_at d w u 0 v a.0 a.1 in
        let lt : first + 1 < 204 = ⊎_elim (λ (less : first + 1 < 204). less) (λ (ge : 204 ≤ first + 1). absurd (nil_local (sym (read.ends.each (first + 1) ge) ∙ ap target (sym (slot_is u a.0 (first + 1) a.1)) ∙ x.leads))) (cases_lt (first + 1) 204) in
        let p : ℕ = v.index * 102 + first / 2 in
        let one : entry_at arena image w (2 * (v.index * 102 + first / 2)) ≡ link_below arena image u first = entry_is d w u v (2 * (v.index * 102 + first / 2)) first (omega (arith, lt, odd)) (omega (arith, lt, odd)) in
        let two : entry_at arena image w (2 * (v.index * 102 + first / 2) + 1) ≡ link_below arena image u (first + 1) = entry_is d w u v (2 * (v.index * 102 + first / 2) + 1) (first + 1) (omega (arith, lt, odd)) (omega (arith, lt, odd)) in
        subst (λ (y : Link). HasRecords arena image k.at y) two (records_pair d w (v.index * 102 + first / 2) v.inside (subst (λ (y : Link). IsEntries y.slot) (sym one) x.entries) (subst (λ (y : Link). IsRecords y.slot) (sym two) x.records))

    go : (q : List ℕ) (d : ℕ) (w u : Link) (l : ℕ) → Spot d w u l → IsPairAt (goes arena image u q) → HasRecords arena image k.at (link_below arena image (goes arena image u q) (first + 1))
    go [] d w u zero v x = at_leaf d w u v x
    go [] d w u (suc l) v x = let no : ⊥ = subst (λ (y : Kind). HoldsEntries y) v.down x.holder in absurd no
    go (i ∷ q) d w u (suc l) v x =
        let a = leads_to u (i ∷ q) x in
        let b = leads_to (link_below arena image u i) q x in
        let read : ArePointers (image a.0) (block_of device a.0) = read_at d w u (suc l) v a.0 a.1 in
        let lt : i < 409 = ⊎_elim (λ (less : i < 409). less) (λ (ge : 409 ≤ i). absurd (nil_local (sym (read.ends.each i ge) ∙ ap target (sym (slot_is u a.0 i a.1)) ∙ b.1))) (cases_lt i 409) in
        go q d w (link_below arena image u i) l (further d w u l i lt v) x
    go (i ∷ q) d w u zero v x =
        let a = leads_to u (i ∷ q) x in
        let b = leads_to (link_below arena image u i) q x in
        let read : AreEntries (image a.0) (block_of device a.0) = read_at d w u 0 v a.0 a.1 in
        let lt : i < 204 = ⊎_elim (λ (less : i < 204). less) (λ (ge : 204 ≤ i). absurd (nil_local (sym (read.ends.each i ge) ∙ ap target (sym (slot_is u a.0 i a.1)) ∙ b.1))) (cases_lt i 204) in
        let e : HasEntry (image a.0) (block_of device a.0) i = read.each i lt in
        let slot : (link_below arena image u i).slot ≡ Head e.entry = slot_is u a.0 i a.1 ∙ e.is in
        let active : e.entry.active ≡ true = ⊎_elim (λ yes'. yes') (λ (isnt : e.entry.active ≡ false). absurd (nil_local (sym (nil_top e.entry e.entry.active isnt e.spelled.holds.active_holds) ∙ ap target (sym slot) ∙ b.1))) (bool_is e.entry.active) in
        ⊎_elim
        (λ (dir : e.entry.dir ≡ true). let o = opened d w u i e.entry lt v slot active dir in go q (suc d) (entry_at arena image w o.0) (link_below arena image u i) e.entry.depth o.1 x)
        (λ (file : e.entry.dir ≡ false).
        let kind : (link_below arena image u i).kind ≡ Data e.entry.depth = ap (λ (y : Kind). kind_below y ((found arena image u).slot i)) v.down ∙ ap kind_of_top slot ∙ ap (λ (t : Bool). cond t (Dir e.entry.depth) (Data e.entry.depth)) file in
        absurd (no_entries ((goes arena image (link_below arena image u i) q).kind) (data_goes q (link_below arena image u i) (record { level = e.entry.depth; is = kind })) x.holder))
        (bool_is e.entry.dir)

    root_slot : ℕ → Slot
    root_slot i = (image k.at).slot i

    -- no slot of a root block but the first two leads anywhere
    few_slots : (i a : ℕ) → 2 ≤ i → target ((image k.at).slot i) ≡ Local a → ⊥
    few_slots i a ge e = ⊎_elim
        (λ (two : i ≡ 2). nil_local (ap target (sym holds.before) ∙ ap (λ (n : ℕ). target ((image k.at).slot n)) (sym two) ∙ e))
        (λ (apart : i ≢ 2). nil_local (sym (holds.ends.each i (omega (arith, ge, apart))) ∙ e))
        (cases_eq i 2)

    from_root : (path : List ℕ) → path ≢ [] → IsPairAt (at_path arena image k.at path) → HasRecords arena image k.at (link_below arena image (at_path arena image k.at path) (first + 1))
    from_root [] some x = absurd (some refl)
    from_root (zero ∷ q) some x =
        let b = leads_to (link_below arena image (from_block k.at) 0) q x in
        let slot : (image k.at).slot 0 ≡ Head k.root.entries = ⊎_elim (λ low. low.0) (λ high. absurd (nil_local (ap target (sym high.0) ∙ b.1))) holds.entries in
        let dir : (link_below arena image (from_block k.at) 0).kind ≡ Dir k.root.entries.depth = ap kind_of_top slot ∙ ap (λ (t : Bool). cond t (Dir k.root.entries.depth) (Data k.root.entries.depth)) sound.entries.entries_dir in
        let deep : depth_of ((image k.at).slot 0) ≡ k.root.entries.depth = ap depth_of slot in
        go q 0 (link_below arena image (from_block k.at) 0) (link_below arena image (from_block k.at) 0) k.root.entries.depth (record {
          path = 0 ∷ [];
          front = [];
          index = 0;
          inside = tree_top;
          kind = dir ∙ ap (λ (n : ℕ). Dir n) (sym deep);
          leads = refl;
          is = refl;
          down = dir;
          depth = omega (arith, deep);
          number = λ more. refl;
        }) x
    from_root (suc zero ∷ q) some x =
        let b = leads_to (link_below arena image (from_block k.at) 1) q x in
        let slot : (image k.at).slot 1 ≡ Head k.root.meta = ⊎_elim (λ low. low.0) (λ high. absurd (nil_local (ap target (sym high.0) ∙ b.1))) holds.meta in
        let kind : (link_below arena image (from_block k.at) 1).kind ≡ Data k.root.meta.depth = ap kind_of_top slot ∙ ap (λ (t : Bool). cond t (Dir k.root.meta.depth) (Data k.root.meta.depth)) sound.entries.meta_dir in
        absurd (no_entries ((goes arena image (link_below arena image (from_block k.at) 1) q).kind) (data_goes q (link_below arena image (from_block k.at) 1) (record { level = k.root.meta.depth; is = kind })) x.holder)
    from_root (suc (suc i) ∷ q) some x = let b = leads_to (link_below arena image (from_block k.at) (suc (suc i))) q x in absurd (few_slots (suc (suc i)) b.0 (omega arith) b.1)

  -- The records of a directory by their path are those of a directory of the tree.
  has_records : (meta : Link) (c : ℕ) → AreRecordsOf arena image k meta → target meta.slot ≡ Local c → HasRecords arena image k.at meta
  has_records meta c r leads = by r.path refl
    where
      is_end : (p : List ℕ) → r.path ≡ p → meta ≡ link_below arena image (at_path arena image k.at p) (r.first + 1)
      is_end p e = r.is ∙ ap (λ (x : List ℕ). at_path arena image k.at (x ++ (r.first + 1) ∷ [])) e ∙ goes_end arena image p (from_block k.at) (r.first + 1)

      other : (p : List ℕ) → r.path ≡ p → p ≢ [] → HasRecords arena image k.at meta
      other p e some =
          let entries : IsEntries ((at_path arena image k.at (r.path ++ r.first ∷ [])).slot) = ⊎_elim (λ (none' : r.path ≡ []). absurd (some (sym e ∙ none'))) (λ (h : IsEntries ((at_path arena image k.at (r.path ++ r.first ∷ [])).slot)). h) r.pair in
          subst (λ (y : Link). HasRecords arena image k.at y) (sym (is_end p e)) (from_root r.first c r.names.second p some (record {
            holder = subst (λ (x : List ℕ). HoldsEntries ((at_path arena image k.at x).kind)) e r.names.holder;
            entries = subst (λ (y : Link). IsEntries y.slot) (ap (λ (x : List ℕ). at_path arena image k.at (x ++ r.first ∷ [])) e ∙ goes_end arena image p (from_block k.at) r.first) entries;
            records = subst (λ (y : Link). IsRecords y.slot) (ap (λ (x : List ℕ). at_path arena image k.at (x ++ (r.first + 1) ∷ [])) e ∙ goes_end arena image p (from_block k.at) (r.first + 1)) r.names.records;
            leads = ap (λ (y : Link). target y.slot) (sym (is_end p e)) ∙ leads;
          }))

      by : (p : List ℕ) → r.path ≡ p → HasRecords arena image k.at meta
      by [] e = ⊎_elim
          (λ (zero' : r.first ≡ 0). subst (λ (y : Link). HasRecords arena image k.at y) (sym (is_end [] e ∙ ap (λ (n : ℕ). link_below arena image (from_block k.at) (n + 1)) zero')) records_root)
          (λ (some : r.first ≢ 0). absurd (few_slots r.first c r.names.second (r.first + 1) c (omega (arith, some)) (ap (λ (y : Link). target y.slot) (sym (is_end [] e)) ∙ leads)))
          (cases_eq r.first 0)
      by (i ∷ q) e = other (i ∷ q) e (λ x. nil_cons x)

  -- ---- no rule is broken

  not_formats : (at : ℕ) → BreaksFormats arena image k at → ⊥
  not_formats at (formats_root at' is deep) =
      let r : IsRootBlock (image k.at) (block_of device k.at) = sound.read.each [] k.at refl in
      ⊎_elim
      (λ (first : 4 < k.root.entries.depth). ⊎_elim (λ low. omega (arith, first, low.1)) (λ high. nil_head (sym high.0 ∙ r.entries.0)) holds.entries)
      (λ (second : 4 < k.root.meta.depth). ⊎_elim (λ low. omega (arith, second, low.1)) (λ high. nil_head (sym high.0 ∙ r.meta.0)) holds.meta)
      deep
  not_formats at (formats_block path at' leads isnt) = isnt (subst (λ (b : Block). IsRead ((at_path arena image k.at path).kind) (image at) b) (sym (holds.bytes at)) (sound.read.each path at leads))
  not_formats at (formats_leaf path more i at' names kind leads isnt) = isnt (sound.leaves.leaves path more i at names kind leads)
  not_formats at (formats_names meta at' of h) =
      let b = local_at meta (leaf_path meta.slot h.leaf) at h.leads in
      h.apart (sound.leaves.names meta h.leaf h.place h.other_leaf h.other_place h.one h.other (has_records meta b.0 of b.1) h.first h.second h.same)

  not_pairs : (at : ℕ) → BreaksPairs arena image k at → ⊥
  not_pairs at (pairs_root at' is isnt) = isnt sound.entries
  not_pairs at (pairs_lacks trail entries meta at' dir h) = h.lacks (sound.pairs.fit trail entries meta h.leaf h.place h.one dir h.lists)
  not_pairs at (pairs_twice trail entries meta at' dir h) = h.apart (sound.pairs.differ trail entries meta h.leaf h.place h.other_leaf h.other_place h.one h.other dir h.first h.second h.same)

  not_once : (at : ℕ) → BreaksOnce arena image k at → ⊥
  not_once at (once_twice p q at' lp lq apart) = apart (sound.once.once p q at lp lq)

  not_numbers : (at : ℕ) → BreaksNumbers arena image k s.numbers at → ⊥
  not_numbers at (numbers_deep above w j at' tree low entries leads) = let most = sound.named.depths (suc above) (entry_at arena image w j) (tree_below above w j tree entries) in omega (arith, most, low)
  not_numbers at (numbers_outside at' r h isnt) = isnt (sound.named.below h.trail h.entries h.meta h.leaf h.place r h.dir h.lists)
  not_numbers at (numbers_twice at' other r q a b same isnt) = isnt (sound.named.differ a.trail b.trail a.entries a.meta b.entries b.meta a.leaf a.place b.leaf b.place r q a.dir b.dir a.lists b.lists same)

  not_scores : (at : ℕ) → BreaksScores arena image k at → ⊥
  not_scores at (scores_score path i at' held leads is) = sound.scores.none (path ++ i ∷ []) held is

  -- each block that a path leads to has a label
  label_on : (q p : List ℕ) (a at : ℕ) (l : Label) → LeadsTo arena image k.at p a → HasLabel device a l → LeadsTo arena image k.at (p ++ q) at → (m : Label) × HasLabel device at m
  label_on [] p a at l lp has leads =
      let same : Local at ≡ Local a = sym leads ∙ ap (λ (x : List ℕ). target ((at_path arena image k.at x).slot)) (append-nil p) ∙ lp in
      let eq : a ≡ at = cc in
      (l, subst (λ (n : ℕ). HasLabel device n l) eq has)
  label_on (i ∷ q) p a at l lp has leads =
      let long : p ++ i ∷ q ≡ (p ++ i ∷ []) ++ q = sym (append_assoc p (i ∷ []) q) in
      let leads' : LeadsTo arena image k.at ((p ++ i ∷ []) ++ q) at = ap (λ (x : List ℕ). target ((at_path arena image k.at x).slot)) (sym long) ∙ leads in
      let b = local_at (at_path arena image k.at (p ++ i ∷ [])) q at (ap (λ (x : Link). target x.slot) (sym (goes_join arena image holds.empty (p ++ i ∷ []) q (from_block k.at))) ∙ leads') in
      let h : HasLabelBelow device k.root.epoch true _ l b.0 = sound.labels.each p i a b.0 l lp has b.1 in
      label_on q (p ++ i ∷ []) b.0 at h.label b.1 h.has leads'

  label_at : (path : List ℕ) (at : ℕ) → LeadsTo arena image k.at path at → (m : Label) × HasLabel device at m
  label_at path at leads = label_on path [] k.at at (root_label s) refl (subst (λ (n : ℕ). HasLabel device n (root_label s)) (sym holds.at) holds.active.label) leads

  not_labels : (at : ℕ) → BreaksLabels arena device image k at → ⊥
  not_labels at (labels_outside path i at' below lp lb isnt) = let l = label_at path at lp in isnt (sound.labels.each path i at below l.0 lp l.1 lb).place
  not_labels at (labels_label path i at' below above lp has lb place isnt) = isnt (sound.labels.each path i at' below above lp has lb)

  -- A report of a sound tree names no rule.
  pub names_none : (found : Found) → IsWalked arena device image s k found → found.broken ≡ None
  names_none found w = by found.broken refl w.named
    where
      breaks : (b : Broken) → found.broken ≡ Some b → IsNamed arena image k b → ⊥
      breaks b e n = ⊎_elim (λ five. not_formats b.block (w.five.each b e five)) (λ (not_five : b.rule ≢ 5).
          ⊎_elim (λ six. not_pairs b.block (w.six.each b e six)) (λ (not_six : b.rule ≢ 6).
          ⊎_elim (λ seven. not_once b.block (n.once seven)) (λ (not_seven : b.rule ≢ 7).
          ⊎_elim (λ eight. not_numbers b.block (w.eight.each b e eight)) (λ (not_eight : b.rule ≢ 8).
          not_scores b.block (n.scores (omega (arith, n.rule.0, n.rule.1, not_five, not_six, not_seven, not_eight))))
          (cases_eq b.rule 8)) (cases_eq b.rule 7)) (cases_eq b.rule 6)) (cases_eq b.rule 5)

      by : (o : Option Broken) → found.broken ≡ o → MatchOption found.broken (IsSoundTree arena device image s.numbers true k) (IsNamed arena image k) → found.broken ≡ None
      by None e m = e
      by (Some b) e m = absurd (breaks b e (subst (λ (o : Option Broken). MatchOption o (IsSoundTree arena device image s.numbers true k) (IsNamed arena image k)) e m))

  not_table : (at : ℕ) → HasTable device → BreaksTable device at → ⊥
  not_table at t (table_label place none') = let l = t.labels at place in none' l.0 l.1
  not_table at t (table_other address lt isnt is some) = some (t.others address lt isnt)
  not_table at t (table_rest ge lt some) = some (t.rests at ge lt)

  -- A sound tree below a sound table is not refused.
  pub refuses_none : (e : TreeError) → HasTable device → RefusesCheck arena device image k e → (block : ℕ) → e ≡ BadLabel block → ⊥
  refuses_none (BadLabel at) t r block is = ⊎_elim (λ (b : BreaksTable device at). not_table at t b) (λ (b : BreaksLabels arena device image k at). not_labels at b) r
  refuses_none BadRead t r block is = cc
  refuses_none Memory t r block is = cc
