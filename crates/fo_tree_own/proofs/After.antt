-- What is there once a block was given out and put.
use Rattle.std.proofs.Common.{◌≡◌, ◌≢◌, ◌⊎◌, ◌↔◌, ◌+◌, ◌*◌, ◌%◌, ◌<◌, ℕ, suc, Bool, true, false, List, [], ◌∷◌, ◌++◌, length, inl, inr, ⊎_elim, refl, sym, ◌∙◌, ap, subst, arith}
use Rattle.std.proofs.lemmas.Bool.{cases_eq}
use Rattle.fo_image.specs.declared.types.Kind.TheVariants.{Data, Root}
use Rattle.fo_image.specs.declared.types.Label.{Label}
use Rattle.fo_image.specs.declared.types.Pointer.{Pointer}
use Rattle.fo_image.specs.declared.types.Pointer.TheVariants.{Nil, Local, Score as Held}
use Rattle.fo_crash.specs.declared.slot.Slot.{Slot}
use Rattle.fo_crash.specs.declared.slot.Slot.TheVariants.{Pointer as To}
use Rattle.fo_crash.specs.declared.place.Place.{Place}
use Rattle.fo_crash.specs.Images.{Image, SameContent, Reaches, target, local, walk, to_block, with_slot}
use Rattle.fo_crash.specs.Steps.{PutsSlot, AddsSlot, IsSure, Covers}
use Rattle.fo_crash.specs.Places.{place, place_below, super_place, IsPlaced}
use Rattle.fo_crash.specs.Spots.{Spot, spot_below}
use Rattle.fo_crash.proofs.Reach.{lost, reaches_on, reaches_joins, reaches_same, reach_into}
use Rattle.fo_crash.proofs.Updates.{slot_bytes, slot_other, slot_here}
use Rattle.fo_tree_look.specs.of_ports.State.{State, KeepsAll, IsRooted, Frame, Hangs, KeepsOrder, AddsNoWait, IsPointers, none}
use Rattle.fo_tree_look.specs.of_ports.Sources.{IsHung, Made, Touched, Undone, IsMade, StaysMarked, Changes}
use Rattle.fo_tree_look.proofs.of_looks.Looks.{rooted_of_apart}
use Rattle.fo_tree_look.specs.of_tree_read.declared.tree.Tree.{Tree}
use Rattle.fo_tree_look.specs.of_tree_read.Tree.{kind_at}
use Rattle.fo_tree_look.specs.of_ports.Blocks.{IsInner, zero_bytes}
use Rattle.fo_tree_look.specs.Source.{IsPlainTree}
use Rattle.fo_tree_own.specs.Step.{IsOwn, IsBeside, IsBehind, OnlyCovers, Links}
use Rattle.fo_shown.specs.Shown.{IsOfRecords, ShowsNoMore}
use Rattle.fo_shown.proofs.Showing.{shows_joins}
use Rattle.fo_shown.specs.Alike.{LeadsAlike, CanStand, StaysAlike}
use Rattle.fo_shown.proofs.Ways.{AllPlaced}
use Rattle.fo_shown.proofs.Copying.{Leading, copy_shows, new_shows}
use Rattle.fo_shown.proofs.Alikes.{Aside, IsCopy, IsNew, LedAside, GoesBack, alike_nowhere, alike_led_in_tree, is_copy, is_new}
use Rattle.fo_tree_own.proofs.Link.{Laws, Linking, came_shows, local_eq, at_ne, at_pinned, at_place, top_ne, reaches_mid, stands_mid, not_entries, back, unwaited}
use Rattle.fo_tree_own.proofs.May.{there, place_is, inner_kind}

-- A pointer that leads to no block.
abbrev pub IsNone : Pointer → Type 0
IsNone p = (b : ℕ) → p ≢ Local b

-- What came has what the block has to which the slot led, and which every image has as memory has it. Or it leads to no block, it is one of
-- zeros, one of pointers, or of a plain source, and the slot led to none.
abbrev pub ShownAs : Tree → ℕ → Pointer → ℕ → State → Type 0
ShownAs t level was result m = ((y : ℕ) × (was ≡ Local y) × SameContent (m.now result) (m.now y) × IsSure m.now y m.may_leave)
    ⊎ (((j b : ℕ) → target ((m.now result).slot j) ≢ Local b) × (((m.now result).bytes ≡ zero_bytes) ⊎ (IsPlainTree t ⊎ (0 < level))) × IsNone was)

data_level : (dir : Bool) (level : ℕ) → kind_at dir level ≡ Data 0 → level ≡ 0
data_level true level e = cc
data_level false level e = cc

-- A block was given out and put, where the slot led there.
pub record Linked (t : Tree) (level k at i n : ℕ) (was : Pointer) (l : Label) (result : ℕ) (beside : Image → Type 0) (s m u : State) : Type 0 where
  pub link : Linking t level k at i l result s m
  pub kind : l.kind ≡ kind_at t.dir level
  pub tagged : l.tag ≡ t.tag
  pub long : length ((m.now result).bytes) ≡ 8192
  pub leads : target ((m.now at).slot i) ≡ was
  pub alike : (j : ℕ) → (target ((m.now result).slot j) ≡ target ((local m.now was).slot j)) ⊎ (IsNone (target ((m.now result).slot j)) × IsNone (target ((local m.now was).slot j)))
  pub other : (y : ℕ) → was ≡ Local y → y ≢ at
  pub raised : (y : ℕ) → m.instead result y → was ≡ Local y
  pub in_tree : s.tells → (y : ℕ) → was ≡ Local y → Reaches m.now (to_block 1) y
  pub not_apart : s.tells → (w : ℕ) → s.apart w → was ≢ Local w
  pub no_one : s.tells → Reaches m.now ((m.now at).slot i) 1 → ⊥
  pub fresh : was ≡ Local result → ⊥
  pub was_older : (y : ℕ) → was ≡ Local y → (s.label y).epoch < s.high
  pub no_cost : n ≡ 0
  pub tells_of : (image : Image) → m.may_leave image → m.tells
  pub placed : (image : Image) → m.may_leave image → IsPlaced m.stands image
  pub placed_first : AllPlaced s.stands s.may_leave
  pub placed_end : AllPlaced u.stands u.may_leave
  pub content : ShownAs t level was result m
  -- what the put says
  pub puts : PutsSlot at i (To (Local result)) m.now u.now
  pub images : AddsSlot m.now at i (To (Local result)) beside m.may_leave u.may_leave
  pub frame : Frame (λ b. b ≡ at) (λ b. (b ≡ at) ⊎ (Local result ≡ Local b)) n m u
  pub hangs : Hangs at i (To (Local result)) m u
  pub order : KeepsOrder none m u
  pub no_wait : AddsNoWait none m u
  pub covers : m.tells → Covers (IsPointers m) ((m.now at).slot i) m.now u.now m.covered u.covered
  pub all : KeepsAll m u
  pub whole : KeepsAll s u
  pub laws : Laws u
  pub sure : IsSure u.now result u.may_leave

module _ {t : Tree} {level k at i n : ℕ} {was : Pointer} {l : Label} {result : ℕ} {beside : Image → Type 0} {s m u : State} (x : Linked t level k at i n was l result beside s m u) where
  ne : at ≢ result
  ne = at_ne x.link

  told_mid : s.tells → m.tells
  told_mid told = x.link.all.still_tells.1 told

  told_end : s.tells → u.tells
  told_end told = x.whole.still_tells.1 told

  -- A path comes to the same block in both, to the two that changed places, or to none.
  abbrev Leads : Slot → Slot → Type 0
  Leads p q = (target q ≡ target p) ⊎ (((target p ≡ was) × (target q ≡ Local result)) ⊎ (IsNone (target p) × IsNone (target q)))

  at_slot : (a j : ℕ) → Leads ((m.now a).slot j) ((u.now a).slot j)
  at_slot a j = ⊎_elim
      (λ here. ⊎_elim
      (λ own. inr (inl (
        ap (λ y. target ((m.now y).slot j)) here ∙ ap (λ y. target ((m.now at).slot y)) own ∙ x.leads,
        ap (λ y. target ((u.now y).slot j)) here ∙ ap (λ y. target ((u.now at).slot y)) own ∙ ap target x.puts.here,
      )))
      (λ aside. inl (ap target (x.puts.others a j (inr aside))))
      (cases_eq j i))
      (λ apart. inl (ap target (x.puts.others a j (inl apart))))
      (cases_eq a at)

  same_end : (j : ℕ) → (u.now result).slot j ≡ (m.now result).slot j
  same_end j = x.puts.others result j (inl (λ e. ne (sym e)))

  alike_end : (j : ℕ) → Leads ((local m.now was).slot j) ((u.now result).slot j)
  alike_end j = subst (λ (y : Slot). Leads ((local m.now was).slot j) y) (sym (same_end j)) (⊎_elim (λ e. inl e) (λ none. inr (inr (none.1, none.0))) (x.alike j))

  from_one : (j : ℕ) (p : Pointer) → Leads ((local m.now p).slot j) ((local u.now p).slot j)
  from_one j Nil = inl refl
  from_one j (Local a) = at_slot a j
  from_one j (Held score) = inl refl

  one_on : (j : ℕ) (p q : Pointer) → (q ≡ p) ⊎ ((p ≡ was) × (q ≡ Local result)) → Leads ((local m.now p).slot j) ((local u.now q).slot j)
  one_on j p q (inl e) = subst (λ y. Leads ((local m.now p).slot j) ((local u.now y).slot j)) (sym e) (from_one j p)
  one_on j p q (inr h) = subst (λ y. Leads ((local m.now p).slot j) ((local u.now y).slot j)) (sym h.1) (subst (λ y. Leads ((local m.now y).slot j) ((u.now result).slot j)) (sym h.0) (alike_end j))

  walks_on : (path : List ℕ) (p q : Slot) → Leads p q → Leads (walk m.now p path) (walk u.now q path)
  walks_on [] p q h = h
  walks_on (j ∷ path) p q (inl e) = walks_on path ((local m.now (target p)).slot j) ((local u.now (target q)).slot j) (one_on j (target p) (target q) (inl e))
  walks_on (j ∷ path) p q (inr (inl h)) = walks_on path ((local m.now (target p)).slot j) ((local u.now (target q)).slot j) (one_on j (target p) (target q) (inr h))
  walks_on (j ∷ path) p q (inr (inr none)) = inr (inr (lost m.now (j ∷ path) p none.0, lost u.now (j ∷ path) q none.1))

  reaches_end : (w b : ℕ) → (was ≡ Local b → ⊥) → Reaches m.now (to_block w) b → Reaches u.now (to_block w) b
  reaches_end w b not r = ⊎_elim
      (λ e. record { path = r.path; leads = e ∙ r.leads })
      (λ h. ⊎_elim (λ swapped. absurd (not (sym swapped.0 ∙ r.leads))) (λ none. absurd (none.0 b r.leads)) h)
      (walks_on r.path (to_block w) (to_block w) (inl refl))

  reached_end : s.tells → (b : ℕ) → (was ≡ Local b → ⊥) → Reaches s.now (to_block 1) b → Reaches u.now (to_block 1) b
  reached_end told b not r = reaches_end 1 b not (reaches_mid x.link told 1 b super_place (x.link.laws.super_stands told) r)

  -- what hung below the slot hangs still in the tree, but for the block itself
  below_tree : s.tells → (b : ℕ) (p : Pointer) → was ≡ p → Reaches m.now ((m.now at).slot i) b → Reaches m.now (to_block 1) b
  below_tree told b Nil e r = absurd (lost m.now r.path ((m.now at).slot i) (λ y f. let none : Nil ≡ Local y = sym (x.leads ∙ e) ∙ f in cc) b r.leads)
  below_tree told b (Held score) e r = absurd (lost m.now r.path ((m.now at).slot i) (λ y f. let none : Held score ≡ Local y = sym (x.leads ∙ e) ∙ f in cc) b r.leads)
  below_tree told b (Local y) e r = reaches_joins (x.in_tree told y e) (reaches_same {t = to_block y} (x.leads ∙ e) r)

  told_covers : s.tells → OnlyCovers was s u
  told_covers told = record {
    still = λ b h. (x.covers (told_mid told)).still b (back_covered b h);
    only = λ b no not h. (x.covers (told_mid told)).only b (λ g. from_covered b no g)
        (λ r. (x.laws.live b (told_end told) (λ e. x.no_one told (subst (λ y. Reaches m.now ((m.now at).slot i) y) e r)) (reaches_end 1 b not (below_tree told b was refl r))).2 h) h;
  }
    where
      back_covered : (b : ℕ) → s.covered b → m.covered b
      back_covered b h = x.link.came.still b (λ e. x.link.came.was.2 (subst (λ y. s.covered y) e h)) h

      from_covered : (b : ℕ) → (s.covered b → ⊥) → m.covered b → ⊥
      from_covered b free g = x.link.came.only b (λ e. x.link.came.is.4 (subst (λ y. m.covered y) e g)) free g

  -- what is to be closed is known only where the device tells
  only_covers : OnlyCovers was s u
  only_covers = record {
    still = λ b h. (told_covers (x.link.laws.covers_told b h)).still b h;
    only = λ b no not h. (told_covers (x.whole.still_tells.0 (x.laws.covers_told b h))).only b no not h;
  }

  label_end : (b : ℕ) → b ≢ result → u.label b ≡ s.label b
  label_end b apart = x.frame.stays.labels b (λ h. h) ∙ x.link.came.stays.labels b apart

  result_end : u.label result ≡ l
  result_end = x.frame.stays.labels result (λ h. h) ∙ x.link.came.label

  made_end : Made s u result
  made_end = (x.link.came.was.0, ap (λ (q : Label). q.state) result_end ∙ x.link.is_live)

  made_is : (b : ℕ) → Made s u b → b ≡ result
  made_is b made = ⊎_elim (λ e. e) (λ apart. absurd (made.0 (ap (λ (q : Label). q.state) (sym (label_end b apart)) ∙ made.1))) (cases_eq b result)

  not_made : (b : ℕ) → (Made s u b → ⊥) → b ≢ result
  not_made b h e = h (subst (λ y. Made s u y) (sym e) made_end)

  slots_end : (b j : ℕ) → b ≢ result → (b ≢ at) ⊎ (j ≢ i) → (u.now b).slot j ≡ (s.now b).slot j
  slots_end b j apart h = x.puts.others b j h ∙ (x.link.came.others b apart).slots j

  bytes_end : (b : ℕ) → b ≢ result → (u.now b).bytes ≡ (s.now b).bytes
  bytes_end b apart = x.puts.bytes b ∙ (x.link.came.others b apart).bytes

  leads_end : target ((u.now at).slot i) ≡ Local result
  leads_end = ap target x.puts.here

  instead_end : (b y : ℕ) → u.instead b y → s.instead b y
  instead_end b y h = ⊎_elim
      (λ own. absurd ((x.hangs.put result refl).1 y (subst (λ z. u.instead z y) own h)))
      (λ apart. (x.link.came.stays.instead b y apart (λ z. z)).0 (⊎_elim
      (λ here. subst (λ z. m.instead z y) (sym here) (⊎_elim
      (λ mid. mid)
      (λ raised. absurd (⊎_elim
      (λ e. e.1 (subst (λ z. m.apart z) (local_eq raised.1.1) x.link.came.is.3))
      (λ mid. raised.0.0.1 i y (x.leads ∙ x.raised y (subst (λ z. m.instead z y) (sym (local_eq raised.1.1)) mid)))
      raised.1.2))
      (x.hangs.raised y (subst (λ z. u.instead z y) here h))))
      (λ away. (x.frame.stays.instead b y (λ z. z) (λ g. ⊎_elim away (λ e. apart (sym (local_eq e))) g)).0 h)
      (cases_eq b at)))
      (cases_eq b result)

  -- what came in the place of another still does, but for what was put
  still_end : (b y : ℕ) → b ≢ result → s.instead b y → u.instead b y
  still_end b y apart h =
      let mid = (x.link.came.stays.instead b y apart (λ z. z)).1 h in
      ⊎_elim
      (λ here. subst (λ z. u.instead z y) (sym here) (x.hangs.still y (subst (λ z. m.instead z y) here mid)))
      (λ away. (x.frame.stays.instead b y (λ z. z) (λ g. ⊎_elim away (λ e. apart (sym (local_eq e))) g)).1 mid)
      (cases_eq b at)

  waits_end : (a b j : ℕ) → b ≢ result → a ≢ result → s.waits a b j → u.waits a b j
  waits_end a b j apart sep w =
      let mid = x.link.came.stays.waits a b j sep apart (λ z. z) w in
      ⊎_elim
      (λ here. absurd (unwaited x.link a j (subst (λ y. m.waits a y j) here mid)))
      (λ away. x.hangs.waits a b j (inl away) mid)
      (cases_eq b at)

  behind : (image : Image) → u.may_leave image → IsBehind at i result s u image
  behind image is = ⊎_elim
      (λ mid.
      let d = x.link.came.before image mid in
      record {
        other = d.other;
        was = d.was;
        bytes = λ b apart. (d.same b apart).bytes;
        slots = λ b j apart h. (d.same b apart).slots j;
        here = inl ((d.same at ne).slots i);
        apart = λ top is_top r. unreached image mid d top is_top r;
      })
      (λ put.
      let between = with_slot image at i ((m.now at).slot i) in
      let d = x.link.came.before between put.1 in
      record {
        other = d.other;
        was = d.was;
        bytes = λ b apart. sym (slot_bytes image at i ((m.now at).slot i) b) ∙ (d.same b apart).bytes;
        slots = λ b j apart h. sym (slot_other image at i ((m.now at).slot i) b j h) ∙ (d.same b apart).slots j;
        here = inr (put.0 ∙ sym x.puts.here);
        apart = λ top is_top r. unreached between put.1 d top is_top r;
      })
      (x.images.each image is)
    where
      unreached : (before : Image) → m.may_leave before → (d : IsBeside result s before) (top : ℕ) → s.tops top → Reaches d.other (to_block top) result → ⊥
      unreached before mid d top is_top r = x.link.came.unreached before mid top is_top (reach_into before d.other (λ y. y ≡ result) top
          (λ y j apart. (d.same y apart).slots j)
          (λ y e far. x.link.came.unreached before mid top is_top (subst (λ z. Reaches before (to_block top) z) e far)) result r)

  -- ---- the two blocks are current

  at_marks : u.pinned at
  at_marks = (x.frame.stays.marks at (λ h. h)).0 (at_pinned x.link)

  spared : s.tells → (s.covered at → ⊥) → (was ≡ Local at → ⊥) → u.covered at → ⊥
  spared told free other h = only_covers.only at free other h

  not_was : was ≡ Local at → ⊥
  not_was e = x.other at e refl

  at_stands : s.tells → u.stands at (place (kind_at t.dir (suc level)) t.tag k (t.rank + suc level))
  at_stands told = x.hangs.at_place (told_mid told) (place (kind_at t.dir (suc level)) t.tag k (t.rank + suc level)) (spared told (x.link.above.told told).uncovered not_was) (at_place x.link told)

  rooted_mid : s.tells → (b : ℕ) → IsRooted u b → IsRooted m b
  rooted_mid told b r = x.frame.stays.rooted (told_mid told) b (λ h. h) r

  rooted_end : s.tells → (b : ℕ) → b ≢ result → IsRooted u b → IsRooted s b
  rooted_end told b apart r = x.link.came.stays.rooted told b apart (rooted_mid told b r)

  places_end : s.tells → (b : ℕ) (p : Place) → b ≢ result → (u.covered b → ⊥) → IsRooted u b → s.stands b p → u.stands b p
  places_end told b p apart free r stands =
      let mid = x.link.came.stays.places told b p apart (λ h. h) (λ h. free ((x.covers (told_mid told)).still b h)) (rooted_mid told b r) stands in
      ⊎_elim
      (λ here. subst (λ y. u.stands y p) (sym here) (x.hangs.at_place (told_mid told) p (λ h. free (subst (λ y. u.covered y) (sym here) h)) (subst (λ y. m.stands y p) here mid)))
      (λ away. x.frame.stays.places (told_mid told) b p (λ h. h) (λ g. ⊎_elim away (λ e. apart (sym (local_eq e))) g) free r mid)
      (cases_eq b at)

  apart_same : (b : ℕ) → b ≢ result → u.apart b ↔ s.apart b
  apart_same b apart =
      let first = x.link.came.stays.apart b apart (λ h. h) in
      ⊎_elim
      (λ here. let last = x.hangs.at_apart (λ e. ne (sym (local_eq e))) in (
        λ h. first.0 (subst (λ y. m.apart y) (sym here) (last.0 (subst (λ y. u.apart y) here h))),
        λ h. subst (λ y. u.apart y) (sym here) (last.1 (subst (λ y. m.apart y) here (first.1 h))),
      ))
      (λ away. let last = x.frame.stays.apart b (λ h. h) (λ g. ⊎_elim away (λ e. apart (sym (local_eq e))) g) in (λ h. first.0 (last.0 h), λ h. last.1 (first.1 h)))
      (cases_eq b at)

  hung_end : s.tells → (b : ℕ) → (was ≡ Local b → ⊥) → IsHung s b → IsHung u b
  hung_end told b not hung = ⊎_elim
      (λ r. inl (reached_end told b not r))
      (λ h.
      let apart = top_ne x.link told h in
      let no = only_covers.only h.top h.uncovered (x.not_apart told h.top h.is_apart) in
      inr (record {
        top = h.top;
        is_apart = (apart_same h.top apart).1 h.is_apart;
        place = h.place;
        stands = places_end told h.top h.place apart no (rooted_of_apart u h.top ((apart_same h.top apart).1 h.is_apart)) h.stands;
        uncovered = no;
        reaches = reaches_end h.top b not (reaches_mid x.link told h.top b h.place h.stands h.reaches);
      }))
      hung

  at_hung : s.tells → IsHung u at
  at_hung told = hung_end told at not_was (x.link.above.told told).hung

  -- nothing is to come in the place of what came
  result_alone : s.tells → (y : ℕ) → u.instead y result → ⊥
  result_alone told y h = ⊎_elim
      (λ own. (x.hangs.put result refl).1 result (subst (λ z. u.instead z result) own h))
      (λ apart. x.link.came.alone told y ((x.link.came.stays.instead y result apart (λ z. z)).1 (instead_end y result h)))
      (cases_eq y result)

  above_end : IsOwn u t (suc level) k at
  above_end = record {
    is_pinned = at_marks;
    live = ap (λ (q : Label). q.state) (label_end at ne) ∙ x.link.above.live;
    has_kind = ap (λ (q : Label). q.kind) (label_end at ne) ∙ x.link.above.has_kind;
    tagged = ap (λ (q : Label). q.tag) (label_end at ne) ∙ x.link.above.tagged;
    current = ap (λ (q : Label). q.epoch) (label_end at ne) ∙ x.link.above.current ∙ sym x.whole.same_high;
    long = ap length (bytes_end at ne) ∙ x.link.above.long;
    told = λ now. let told = x.whole.still_tells.0 now in record { stands = at_stands told; uncovered = spared told (x.link.above.told told).uncovered not_was; hung = at_hung told; alone = λ y h. (x.link.above.told told).alone y (instead_end y at h) };
  }

  own_hung : s.tells → IsHung u result
  own_hung told = ⊎_elim
      (λ r. inl (reaches_on i r leads_end))
      (λ h. inr (record { top = h.top; is_apart = h.is_apart; place = h.place; stands = h.stands; uncovered = h.uncovered; reaches = reaches_on i h.reaches leads_end }))
      (at_hung told)

  own_stands : s.tells → u.stands result (there t level k i)
  own_stands told =
      let p = place (kind_at t.dir (suc level)) t.tag k (t.rank + suc level) in
      subst (λ q. u.stands result q) (place_is x.link told p (at_place x.link told)) (x.hangs.place (told_mid told) result p (at_place x.link told) refl)

  own_end : IsOwn u t level (409 * k + i) result
  own_end = record {
    is_pinned = (x.frame.stays.marks result (λ h. h)).0 x.link.came.is.1;
    live = ap (λ (q : Label). q.state) result_end ∙ x.link.is_live;
    has_kind = ap (λ (q : Label). q.kind) result_end ∙ x.kind;
    tagged = ap (λ (q : Label). q.tag) result_end ∙ x.tagged;
    current = ap (λ (q : Label). q.epoch) result_end ∙ x.link.is_current ∙ sym x.whole.same_high;
    long = ap length (x.puts.bytes result) ∙ x.long;
    told = λ now. let told = x.whole.still_tells.0 now in record { stands = own_stands told; uncovered = only_covers.only result x.link.came.was.2 x.fresh; hung = own_hung told; alone = λ y h. absurd (result_alone told y h) };
  }

  -- ---- all that changed

  touches : (b : ℕ) → (Touched s u t.tag (λ y. y ≡ at) b → ⊥) → (b ≢ at) × (b ≢ result)
  touches b not = (
    λ e. not (inr (e, ap (λ y. (s.label y).epoch) e ∙ x.link.above.current, ap (λ y. (s.label y).tag) e ∙ x.link.above.tagged)),
    λ e. not (inl (subst (λ y. Made s u y) (sym e) made_end)),
  )

  undone : (image : Image) → u.may_leave image → Undone (Touched s u t.tag (λ y. y ≡ at)) s u image
  undone image is =
      let b = behind image is in
      record {
        other = b.other;
        was = b.was;
        same = λ y not. let away = touches y not in record { bytes = b.bytes y away.1; slots = λ j. b.slots y j away.1 (inl away.0) };
        slots = λ y j not. let apart = not_made y not in
            ⊎_elim
            (λ here. ⊎_elim
            (λ own. subst (λ z. ((image z).slot j ≡ (b.other z).slot j) ⊎ ((image z).slot j ≡ (u.now z).slot j)) (sym here) (subst (λ z. ((image at).slot z ≡ (b.other at).slot z) ⊎ ((image at).slot z ≡ (u.now at).slot z)) (sym own) b.here))
            (λ aside. inl (b.slots y j apart (inr aside)))
            (cases_eq j i))
            (λ away. inl (b.slots y j apart (inl away)))
            (cases_eq y at);
        apart = λ top y is_top made r. b.apart top is_top (subst (λ z. Reaches b.other (to_block top) z) (made_is y made) r);
      }

  is_made : IsMade t.tag s u result
  is_made = record {
    free = x.link.came.free;
    was = (x.link.came.was.1, λ told. (x.link.came.was.3 told).0);
    labelled = (ap (λ (q : Label). q.epoch) result_end ∙ x.link.is_current, ap (λ (q : Label). q.tag) result_end ∙ x.tagged);
    is_one = (x.all.same_blocks result).1 x.link.came.is.0;
    is_pinned = (x.frame.stays.marks result (λ h. h)).0 x.link.came.is.1;
    is_fresh = (x.frame.stays.marks result (λ h. h)).2 x.link.came.is.2;
  }

  marked : (b : ℕ) → (Made s u b → ⊥) → StaysMarked s u b
  marked b not =
      let apart = not_made b not in
      let first = x.link.came.stays.marks b apart in
      let last = x.frame.stays.marks b (λ h. h) in
      record {
        label = label_end b apart;
        marks = (λ h. last.0 (first.0 h), λ h. last.1 (first.1 h), λ h. last.2 (first.2 h));
      }

  abbrev Mine : ℕ → Type 0
  Mine b = (b ≡ at) ⊎ (was ≡ Local b)

  leaves_end : s.tells → (b : ℕ) → Reaches s.now (to_block 1) b → (Reaches u.now (to_block 1) b → ⊥) → u.covered b
  leaves_end told b r gone =
      let mid = reaches_mid x.link told 1 b super_place (x.link.laws.super_stands told) r in
      ⊎_elim
      (λ e. absurd (gone (record { path = mid.path; leads = e ∙ mid.leads })))
      (λ h. ⊎_elim
      (λ swapped. (x.covers (told_mid told)).leaves b (record {
        path = [];
        leads = x.leads ∙ sym swapped.0 ∙ mid.leads;
        within = λ front j rest y e. absurd (no_front front j rest e);
      }) mid gone)
      (λ none. absurd (none.0 b mid.leads))
      h)
      (walks_on mid.path (to_block 1) (to_block 1) (inl refl))
    where
      no_front : (front : List ℕ) (j : ℕ) (rest : List ℕ) → [] ≡ front ++ (j ∷ rest) → ⊥
      no_front [] j rest e = cc
      no_front (y ∷ front) j rest e = cc

  goes_on_end : (b j : ℕ) → b ≢ result → s.clearing b j → u.clearing b j
  goes_on_end b j ne h = x.order.goes_on b j (λ n. n) (x.link.came.order.goes_on b j ne h)

  changes_end : Changes t.tag Mine (λ b. b ≡ at) s u
  changes_end = record {
    memory = λ b not. let away = touches b not in record { bytes = bytes_end b away.1; slots = λ j. slots_end b j away.1 (inl away.0) };
    images = undone;
    made = λ b made. subst (λ y. IsMade t.tag s u y) (sym (made_is b made)) is_made;
    others = marked;
    apart = λ b not. let same = apart_same b (not_made b not) in (same.0, λ h. inl (same.1 h));
    places = λ told b p not mine no r stands. places_end told b p (not_made b not) no r stands;
    rooted = λ told b not r. rooted_end told b (not_made b not) r;
    instead = λ b y h. inl (instead_end b y h);
    covers = λ b. (only_covers.still b, λ no mine h. only_covers.only b no (λ e. mine (inr e)) h);
    leaves = leaves_end;
    in_tree = λ told b mine r. reached_end told b (λ e. mine (inr e)) r;
    waits = λ a b j not_a not_b w. waits_end a b j (not_made b not_b) (not_made a not_a) w;
    no_wait = record { each = λ a b j h w. x.link.came.no_wait.each a b j h (x.no_wait.each a b j h w) };
    clearing = λ b j h. let mid = x.link.came.order.clearing b j (x.order.clearing b j h).1 in (λ made. mid.0 (made_is b made), mid.1);
    goes_on = λ b j not h. goes_on_end b j (not_made b not) h;
    dirty = λ b d. ⊎_elim
        (λ mid. ⊎_elim
        (λ old. inl old)
        (λ h. inr (⊎_elim (λ e. inl (inl (subst (λ y. Made s u y) (sym e) made_end))) (λ e. inr (result, made_end, e ∙ sym (x.all.same_label_blocks result))) h))
        (x.link.came.dirty b mid))
        (λ e. inr (inl (inr (inl e, ap (λ y. (s.label y).epoch) e ∙ x.link.above.current, ap (λ y. (s.label y).tag) e ∙ x.link.above.tagged))))
        (x.frame.dirty b d);
    moments = x.frame.uses.moments ∙ x.link.came.uses.moments;
    left = λ n image h. x.link.came.uses.left n image (x.frame.uses.left n image h);
    pins = x.frame.uses.pins ∙ x.link.came.uses.pins;
    usable =
        let first = x.link.came.uses.usable in
        let last = x.frame.uses.usable in
        let taken = x.link.came.uses.spare in
        let none = x.frame.uses.spare in
        omega (arith, first, last, taken, none);
    numbers = record { next = x.frame.numbers.next ∙ x.link.came.numbers.next; grants = λ h. x.frame.numbers.grants (x.link.came.numbers.grants h) };
  }

  -- ---- no image shows more

  told_of : (image : Image) → m.may_leave image → s.tells
  told_of image is = x.link.all.still_tells.0 (x.tells_of image is)

  leading : Leading m.stands m.now u.now at i result beside m.may_leave u.may_leave
  leading = record {
    images = x.images;
    sure = x.sure;
    inner = λ image is p stands. subst (λ (q : Place). IsInner q.kind) (sym (x.link.later.one.each at p (place (kind_at t.dir (suc level)) t.tag k (t.rank + suc level)) stands (at_place x.link (told_of image is)))) (inner_kind t.dir level);
    placed = x.placed;
    top = λ image is. x.link.later.super_stands (x.tells_of image is);
  }

  no_records : s.tells → IsPlainTree t ⊎ (0 < level) → (p : Spot) → m.stands at p.place → IsOfRecords (spot_below p i (To (Local result))) → ⊥
  no_records told how p stands of =
      let is = place_is x.link told p.place stands in
      let low : level ≡ 0 = data_level t.dir level (sym (ap (λ (q : Place). q.kind) is) ∙ of.0) in
      let rank : (t.rank + level) % 32 ≡ 16 = subst (λ (q : Place). q.rank % 32 ≡ 16) is of.1 in
      ⊎_elim
      (λ plain. plain.1 (omega (arith, low, rank)))
      (λ high. omega (arith, low, high))
      how

  shown_end : ShowsNoMore s.may_leave u.may_leave
  shown_end = shows_joins
      (came_shows x.link.laws.active x.link.came)
      (⊎_elim
      (λ copied. copy_shows leading copied.0 (x.leads ∙ copied.1) (record { bytes = x.puts.bytes result ∙ copied.2.bytes; slots = λ j. same_end j ∙ copied.2.slots j }) copied.3)
      (λ new. new_shows leading (λ j b e. new.0 j b (sym (ap target (same_end j)) ∙ e)) (λ image is p stands of. x.puts.bytes result ∙ ⊎_elim
      (λ zeros. zeros)
      (λ how. absurd (no_records (told_of image is) how p stands of))
      new.1))
      x.content)

  -- ---- another slot leads to no more

  aside : Aside result s.may_leave m.may_leave
  aside = record {
    before = λ image is. let d = x.link.came.before image is in (d.other, d.was, d.same);
    apart = λ image is r. x.link.came.unreached image is 1 x.link.laws.active r;
  }

  abbrev before : Image → Image
  before image = with_slot image at i ((m.now at).slot i)

  copied_end : (y : ℕ) → was ≡ Local y → SameContent (m.now result) (m.now y) → IsSure m.now y m.may_leave → (image : Image) → u.may_leave image → m.may_leave (before image) → IsCopy at i result image (before image)
  copied_end y leads same older = is_copy (x.leads ∙ leads) (record { bytes = x.puts.bytes result ∙ same.bytes; slots = λ j. same_end j ∙ same.slots j }) older x.sure

  came_end : (image : Image) → u.may_leave image → (image at).slot i ≡ To (Local result) → m.may_leave (before image) → IsCopy at i result image (before image) ⊎ IsNew m.stands at i result image
  came_end image is put old = ⊎_elim
      (λ copied. inl (copied_end copied.0 copied.1 copied.2 copied.3 image is old))
      (λ new. inr (is_new (λ j b e. new.0 j b (sym (ap target (same_end j)) ∙ e)) (λ p stands of. x.puts.bytes result ∙ ⊎_elim
      (λ zeros. zeros)
      (λ how. absurd (no_records (told_of (before image) old) how p stands of))
      new.1) x.sure image is put))
      x.content

  led : LedAside m.stands m.now at i result beside m.may_leave u.may_leave
  led = record { images = x.images; places = record { super_at = leading.top; each = x.placed }; inner = leading.inner; came = came_end }

  goes_back : (image : Image) → u.may_leave image → (image at).slot i ≡ To (Local result) → m.may_leave (before image) → GoesBack at i result image (before image)
  goes_back image is put old = ⊎_elim
      (λ copied. inl (copied_end copied.0 copied.1 copied.2 copied.3 image is old))
      (λ new. inr (λ c e. new.2 c (sym x.leads ∙ ap target (sym (slot_here image at i ((m.now at).slot i))) ∙ e)))
      x.content

  no_root : (dir : Bool) (level : ℕ) → kind_at dir level ≡ Root → ⊥
  no_root true level e = cc
  no_root false level e = cc

  inner_end : s.tells → (p : Place) → u.stands at p → IsInner p.kind
  inner_end told p stands = subst (λ (q : Place). IsInner q.kind) (sym (x.laws.one.each at p (place (kind_at t.dir (suc level)) t.tag k (t.rank + suc level)) stands (above_end.told (told_end told)).stands)) (inner_kind t.dir level)

  module _ (told : s.tells) {w j : ℕ} {z : Slot} (can : CanStand s w j z) where
    not_result : w ≢ result
    not_result e = (x.link.came.was.3 told).1 can.place (subst (λ y. s.stands y can.place) e can.stands)

    not_at : w ≢ at
    not_at e =
        let is = x.link.laws.one.each at can.place (place (kind_at t.dir (suc level)) t.tag k (t.rank + suc level)) (subst (λ y. s.stands y can.place) e can.stands) (x.link.above.told told).stands in
        let kind : can.place.kind ≡ kind_at t.dir (suc level) = ap (λ (q : Place). q.kind) is in
        ⊎_elim (λ h. not_entries t.dir level (sym kind ∙ h)) (λ h. no_root t.dir (suc level) (sym kind ∙ h)) can.names

    tops_mid : (p : Place) (c : ℕ) → m.stands w p → target z ≡ Local c → m.stands c (place_below p j z)
    tops_mid p c stands e =
        let top = can.leads c e in
        let is : p ≡ can.place = x.link.later.one.each w p can.place stands (stands_mid x.link told w can.place can.stands (inl can.in_tree) can.uncovered) in
        subst (λ q. m.stands c (place_below q j z)) (sym is) (stands_mid x.link told c (place_below can.place j z) top.0 top.1 top.2)

    alike_one : LeadsAlike s.may_leave s.now w j z → LeadsAlike u.may_leave u.now w j z
    alike_one first = alike_led_in_tree led x.placed_end (λ image is p stands. inner_end told p stands) goes_back not_result (inl not_at)
        (λ image is p c stands e. tops_mid p c stands e)
        (x.puts.others w j (inl not_at))
        (alike_nowhere x.placed_first (λ image is p stands. (x.link.came.was.3 told).1 p stands) (λ image is c e. (place_below can.place j z, (can.leads c e).0)) aside ((x.link.came.others w not_result).slots j) first)

  stays_alike : StaysAlike s u
  stays_alike = record { each = λ told w j z can first. alike_one told can first }

  pub links : Links t level k at i was result s u
  links = record {
    made = made_end;
    own = own_end;
    above = above_end;
    leads = leads_end;
    slots = slots_end;
    bytes = bytes_end;
    labels = label_end;
    images = behind;
    shown = shown_end;
    alike = stays_alike;
    apart = apart_same;
    instead = instead_end;
    still = still_end;
    below = λ told w b p stands not r. reaches_end w b not (reaches_mid x.link told w b p stands r);
    reached = reached_end;
    in_tree = λ told b e. back x.link told 1 b super_place (x.link.laws.super_stands told) (x.in_tree told b e);
    hung = hung_end;
    places = places_end;
    rooted = rooted_end;
    older = x.was_older;
    covers = only_covers;
    waits = waits_end;
    goes_on = goes_on_end;
    spare = let first = x.link.came.uses.spare in let last = x.frame.uses.spare in omega (arith, first, last);
    usable = let first = x.link.came.uses.usable in let last = x.frame.uses.usable in omega (arith, first, last);
    room = let first = x.link.came.uses.room in let last = x.frame.uses.room in let none = x.no_cost in omega (arith, first, last, none);
    changes = changes_end;
  }
