-- A block that was given out is put below a slot of a current block.
use Rattle.std.proofs.Common.{◌≡◌, ◌≢◌, ◌⊎◌, ◌+◌, ◌-◌, ◌*◌, ◌^◌, ◌<◌, ◌≤◌, ℕ, zero, suc, Bool, true, false, cond, nat_lt, inl, inr, ⊎_elim, refl, sym, ◌∙◌, ap, subst, arith}
use Rattle.fo_image.specs.declared.types.Kind.TheVariants.{Data, Dir}
use Rattle.fo_image.specs.declared.types.Label.{Label}
use Rattle.fo_image.specs.declared.types.State.TheVariants.{Live}
use Rattle.fo_image.specs.declared.types.Pointer.{Pointer}
use Rattle.fo_image.specs.declared.types.Pointer.TheVariants.{Nil, Local, Score as Held}
use Rattle.fo_image.specs.Format.{PointerHolds}
use Rattle.fo_image.specs.Usable.{is_usable}
use Rattle.fo_crash.specs.declared.slot.Slot.{Slot}
use Rattle.fo_crash.specs.declared.slot.Slot.TheVariants.{Pointer as To, Entry as Head, Prev}
use Rattle.fo_crash.specs.declared.place.Place.{Place}
use Rattle.fo_crash.specs.Images.{Content, Image, SameContent, Reaches, target, to_block, with_block}
use Rattle.fo_crash.specs.Places.{place, place_below, super_place, IsPlaced, OnePlace, RanksFall}
use Rattle.fo_crash.proofs.Places.{stands_below}
use Rattle.fo_crash.proofs.Reach.{reach_aside, reach_into}
use Rattle.fo_crash.proofs.Updates.{block_other}
use Rattle.fo_tree_look.specs.of_ports.Blocks.{slot_count, SlotFits, cost, dropped, blank_slot}
use Rattle.fo_tree_look.specs.of_ports.State.{State, KeepsAll, none, Stays, KeepsOrder, AddsNoWait, Uses, KeepsNumbers, Gives, IsHeld}
use Rattle.fo_tree_look.specs.of_ports.Sources.{HangsApart, IsHung}
use Rattle.fo_tree_look.proofs.of_looks.Looks.{rooted_of_apart, rooted_of_hung}
use Rattle.fo_tree_look.specs.of_tree_read.declared.tree.Tree.{Tree}
use Rattle.fo_tree_look.specs.of_tree_read.Tree.{kind_at}
use Rattle.fo_tree_own.specs.Step.{IsOwn, IsBeside, Filled}
use Rattle.fo_shown.specs.Shown.{ShowsNoMore}
use Rattle.fo_shown.proofs.Copying.{aside_shows}

-- ---- blocks of pointers

pub inner_slots : (dir : Bool) (level : ℕ) → slot_count (kind_at dir (suc level)) ≡ 409
inner_slots true level = refl
inner_slots false level = refl

pub pointer_fits : (dir : Bool) (level i : ℕ) (p : Pointer) → PointerHolds p → SlotFits (kind_at dir (suc level)) i (To p)
pointer_fits true level i p holds = holds
pointer_fits false level i p holds = holds

pub is_pointer : (dir : Bool) (level i : ℕ) (s : Slot) → SlotFits (kind_at dir (suc level)) i s → s ≡ To (target s)
is_pointer true level i (To p) fits = refl
is_pointer true level i (Head e) fits = absurd fits
is_pointer true level i (Prev x y) fits = absurd fits
is_pointer false level i (To p) fits = refl
is_pointer false level i (Head e) fits = absurd fits
is_pointer false level i (Prev x y) fits = absurd fits

pub inner_below : (dir : Bool) (level tag k rank i : ℕ) (s : Slot) → place_below (place (kind_at dir (suc level)) tag k (rank + suc level)) i s ≡ place (kind_at dir level) tag (409 * k + i) (rank + level)
inner_below true level tag k rank i s = let less : rank + suc level - 1 ≡ rank + level = omega arith in ap (λ r. place (Dir level) tag (409 * k + i) r) less
inner_below false level tag k rank i s = let less : rank + suc level - 1 ≡ rank + level = omega arith in ap (λ r. place (Data level) tag (409 * k + i) r) less

pub not_entries : (dir : Bool) (level : ℕ) → kind_at dir (suc level) ≡ Dir 0 → ⊥
not_entries true level e = cc
not_entries false level e = cc

pub blank_leads : (dir : Bool) (level j : ℕ) → target (blank_slot (kind_at dir level) j) ≡ Nil
blank_leads false level j = refl
blank_leads true (suc level) j = refl
blank_leads true zero j = by (nat_lt j 204)
  where
    by : (few : Bool) → target (cond few (Head (record { generation = 0; active = false; dir = false; depth = 0; tag = 0; size = 0; top = Nil })) (To Nil)) ≡ Nil
    by true = refl
    by false = refl

pub local_eq : {a b : ℕ} → Local a ≡ Local b → a ≡ b
local_eq e = cc

pub cost_none : (p : Pointer) (r : ℕ) → cost (To p) (To (Local r)) ≡ 0
cost_none Nil r = refl
cost_none (Local x) r = refl
cost_none (Held x) r = refl

-- ---- what is known of blocks at one moment

pub record Laws (s : State) : Type 0 where
  pub present : s.tells → s.may_leave s.now
  pub active : s.tops 1
  pub not_one : s.is_block 1 → ⊥
  pub one : OnePlace s.stands
  pub super_stands : s.tells → s.stands 1 super_place
  pub placed : s.tells → IsPlaced s.stands s.now
  pub ranked : s.tells → RanksFall s.stands s.now
  pub live : (at : ℕ) → s.tells → at ≢ 1 → Reaches s.now (to_block 1) at → ((s.label at).state ≡ Live) × ((s.label at).epoch ≤ s.high) × (s.covered at → ⊥)
  pub clears : (at j : ℕ) → s.clearing at j → ((s.label at).kind ≡ Dir 0) × ((s.label at).epoch ≡ s.high)
  pub waits_within : (a on j : ℕ) → s.waits a on j → (s.label on).kind ≡ Dir 0
  pub covers_told : (at : ℕ) → s.covered at → s.tells
  pub within : (at i below : ℕ) → s.pinned at → target ((s.now at).slot i) ≡ Local below → s.is_block below
  pub spelled : (at i : ℕ) → s.pinned at → i < slot_count (s.label at).kind → SlotFits (s.label at).kind i ((s.now at).slot i)
  pub apart_hangs : s.tells → (w : ℕ) → s.apart w → Reaches s.now (to_block 1) w → ⊥
  pub small : (at : ℕ) → s.is_block at → at < 2 ^ 32 - 1

-- A block was given out, and may have been filled: no path from a top leads to it in any image, and each image is one of before, but for
-- this block.
pub record Came (l : Label) (result : ℕ) (s m : State) : Type 0 where
  pub others : (b : ℕ) → b ≢ result → SameContent (m.now b) (s.now b)
  pub unreached : (image : Image) → m.may_leave image → (t : ℕ) → s.tops t → Reaches image (to_block t) result → ⊥
  pub before : (image : Image) → m.may_leave image → IsBeside result s image
  pub label : m.label result ≡ l
  pub free : is_usable s.low (s.label result) ≡ true
  pub was : ((s.label result).state ≢ Live) × (result ≢ 1) × (s.covered result → ⊥) × (s.tells → (s.tops result → ⊥) × ((p : Place) → s.stands result p → ⊥))
  pub is : m.is_block result × m.pinned result × m.fresh result × m.apart result × (m.covered result → ⊥) × ((a j : ℕ) → m.waits a result j → ⊥)
  pub stays : Stays (λ b. b ≡ result) none s m
  pub order : KeepsOrder (λ b. b ≡ result) s m
  pub still : (b : ℕ) → b ≢ result → s.covered b → m.covered b
  pub only : (b : ℕ) → b ≢ result → (s.covered b → ⊥) → m.covered b → ⊥
  pub alone : s.tells → (y : ℕ) → m.instead y result → ⊥
  pub no_wait : AddsNoWait none s m
  pub dirty : (b : ℕ) → m.dirty b → s.dirty b ⊎ ((b ≡ result) ⊎ (b ≡ m.label_block result))
  pub uses : Uses 1 0 s m
  pub numbers : KeepsNumbers s m

pub came : {result : ℕ} {c : Content} {l : Label} {s m : State} → Gives result c l s m → Came l result s m
came {result = result} {s = s} {m = m} gives = record {
  others = gives.memory.others;
  unreached = gives.images.apart;
  before = λ image is. let d = gives.images.before image is in record { other = with_block image result d.0; was = d.1; same = λ b ne. beside image d.0 b ne };
  label = gives.label;
  free = gives.free;
  was = gives.was;
  is = gives.is;
  stays = gives.stays;
  order = gives.order;
  still = λ b ne. (gives.covered b ne).1;
  only = λ b ne no h. no ((gives.covered b ne).0 h);
  alone = gives.alone;
  no_wait = gives.no_wait;
  dirty = gives.dirty;
  uses = gives.uses;
  numbers = gives.numbers;
}
  where
    beside : (image : Image) (d : Content) (b : ℕ) → b ≢ result → SameContent (image b) (with_block image result d b)
    beside image d b ne = let e = block_other image result d b ne in record { bytes = ap (λ (y : Content). y.bytes) (sym e); slots = λ j. ap (λ (y : Content). y.slot j) (sym e) }

-- A block that was given out, and may have been filled, shows no more.
pub came_shows : {l : Label} {result : ℕ} {s m : State} → s.tops 1 → Came l result s m → ShowsNoMore s.may_leave m.may_leave
came_shows top x = aside_shows (λ image is. let d = x.before image is in (d.other, d.was, d.same)) (λ image is r. x.unreached image is 1 top r)

same_joins : {a b c : Content} → SameContent a b → SameContent b c → SameContent a c
same_joins p q = record { bytes = p.bytes ∙ q.bytes; slots = λ i. p.slots i ∙ q.slots i }

-- what came and was filled has come
pub came_filled : {result : ℕ} {l : Label} {s m u : State} → KeepsAll s m → KeepsAll m u → Came l result s m → Filled result m u → Came l result s u
came_filled {result = result} first all x f = record {
  others = λ b ne. same_joins (f.others b ne) (x.others b ne);
  unreached = λ image is t top r.
      let d = f.images image is in
      x.unreached d.other d.was t top (reach_into d.other image (λ y. y ≡ result) t (λ b j ne. sym ((d.same b ne).slots j)) (λ b e far. x.unreached d.other d.was t top (subst (λ y. Reaches d.other (to_block t) y) e far)) result r);
  before = λ image is.
      let d = f.images image is in
      let e = x.before d.other d.was in
      record { other = e.other; was = e.was; same = λ b ne. same_joins (d.same b ne) (e.same b ne) };
  label = f.labels result ∙ x.label;
  free = x.free;
  was = x.was;
  is = ((all.same_blocks result).1 x.is.0, (f.marks result).0 x.is.1, (f.marks result).2 x.is.2, (f.apart result).1 x.is.3, f.only result x.is.4, λ a j w. x.is.5 a j (f.no_wait.each a result j (λ n. n) w));
  stays = record {
    labels = λ b ne. f.labels b ∙ x.stays.labels b ne;
    marks = λ b ne. let p = x.stays.marks b ne in let q = f.marks b in (λ h. q.0 (p.0 h), λ h. q.1 (p.1 h), λ h. q.2 (p.2 h));
    places = λ told b p ne n free r stands. let mid = first.still_tells.1 told in f.places mid b p free r (x.stays.places told b p ne n (λ h. free (f.still b h)) (f.rooted mid b r) stands);
    rooted = λ told b ne r. x.stays.rooted told b ne (f.rooted (first.still_tells.1 told) b r);
    newborn = λ b ne h. x.stays.newborn b ne (f.newborn b h);
    apart = λ b ne n. let p = x.stays.apart b ne n in (λ h. p.0 ((f.apart b).0 h), λ h. (f.apart b).1 (p.1 h));
    instead = λ b y ne n. let p = x.stays.instead b y ne n in (λ h. p.0 ((f.instead b y).0 h), λ h. (f.instead b y).1 (p.1 h));
    waits = λ a on j ne other n w. f.waits a on j other (x.stays.waits a on j ne other n w);
  };
  order = record { clearing = λ b j h. x.order.clearing b j (f.order.clearing b j h).1; goes_on = λ b j ne h. f.order.goes_on b j (λ n. n) (x.order.goes_on b j ne h) };
  still = λ b ne h. f.still b (x.still b ne h);
  only = λ b ne no h. f.only b (x.only b ne no) h;
  alone = λ told y h. x.alone told y ((f.instead y result).0 h);
  no_wait = record { each = λ a on j n w. x.no_wait.each a on j n (f.no_wait.each a on j n w) };
  dirty = λ b d. ⊎_elim
      (λ mid. ⊎_elim (λ old. inl old) (λ h. inr (⊎_elim (λ e. inl e) (λ e. inr (e ∙ sym (all.same_label_blocks result))) h)) (x.dirty b mid))
      (λ e. inr (inl e))
      (f.dirty b d);
  uses = record {
    spare = let p = x.uses.spare in let q = f.uses.spare in omega (arith, p, q);
    usable = let p = x.uses.usable in let q = f.uses.usable in omega (arith, p, q);
    room = let p = x.uses.room in let q = f.uses.room in omega (arith, p, q);
    pins = f.uses.pins ∙ x.uses.pins;
    moments = f.uses.moments ∙ x.uses.moments;
    left = λ n image h. x.uses.left n image (f.uses.left n image h);
  };
  numbers = record { next = f.numbers.next ∙ x.numbers.next; grants = λ h. f.numbers.grants (x.numbers.grants h) };
}

-- A block was given out, to be put below slot i of a current block.
pub record Linking (t : Tree) (level k at i : ℕ) (l : Label) (result : ℕ) (s m : State) : Type 0 where
  pub came : Came l result s m
  pub all : KeepsAll s m
  pub above : IsOwn s t (suc level) k at
  pub few : i < 409
  pub laws : Laws s
  pub later : Laws m
  pub is_live : l.state ≡ Live
  pub is_current : l.epoch ≡ s.high

module _ {t : Tree} {level k at i : ℕ} {l : Label} {result : ℕ} {s m : State} (x : Linking t level k at i l result s m) where
  pub at_ne : at ≢ result
  at_ne e = x.came.was.0 (ap (λ b. (s.label b).state) (sym e) ∙ x.above.live)

  pub at_label : m.label at ≡ s.label at
  at_label = x.came.stays.labels at at_ne

  pub at_kind : (m.label at).kind ≡ kind_at t.dir (suc level)
  at_kind = ap (λ (q : Label). q.kind) at_label ∙ x.above.has_kind

  pub at_pinned : m.pinned at
  at_pinned = (x.came.stays.marks at at_ne).0 x.above.is_pinned

  pub at_current : (m.label at).epoch ≡ m.high
  at_current = ap (λ (q : Label). q.epoch) at_label ∙ x.above.current ∙ sym x.all.same_high

  pub same : (j : ℕ) → (m.now at).slot j ≡ (s.now at).slot j
  same j = (x.came.others at at_ne).slots j

  pub slot_to : (j : ℕ) → j < 409 → (m.now at).slot j ≡ To (target ((m.now at).slot j))
  slot_to j lt = is_pointer t.dir level j ((m.now at).slot j) (subst (λ q. SlotFits q j ((m.now at).slot j)) at_kind (x.later.spelled at j at_pinned (subst (λ q. j < slot_count q) (sym at_kind) (subst (λ n. j < n) (sym (inner_slots t.dir level)) lt))))

  -- what stands leads not to the block that was given out
  pub away : s.tells → (w : ℕ) (p : Place) → s.stands w p → Reaches s.now (to_block w) result → ⊥
  away told w p stands r =
      let q = stands_below p (x.laws.placed told) (x.laws.ranked told) stands r in
      (x.came.was.3 told).1 q.0 q.1

  pub reaches_mid : s.tells → (w b : ℕ) (p : Place) → s.stands w p → Reaches s.now (to_block w) b → Reaches m.now (to_block w) b
  reaches_mid told w b p stands r = reach_aside s.now m.now (λ y. y ≡ result) w (λ y j ne. sym ((x.came.others y ne).slots j)) (λ y e far. away told w p stands (subst (λ z. Reaches s.now (to_block w) z) e far)) b r

  pub back : s.tells → (w b : ℕ) (p : Place) → s.stands w p → Reaches m.now (to_block w) b → Reaches s.now (to_block w) b
  back told w b p stands r = reach_into s.now m.now (λ y. y ≡ result) w (λ y j ne. sym ((x.came.others y ne).slots j)) (λ y e far. away told w p stands (subst (λ z. Reaches s.now (to_block w) z) e far)) b r

  pub top_ne : {b : ℕ} → s.tells → (h : HangsApart s b) → h.top ≢ result
  top_ne told h e = (x.came.was.3 told).1 h.place (subst (λ y. s.stands y h.place) e h.stands)

  -- what hangs does so still, once the other was given out
  pub hung_mid : s.tells → (b : ℕ) → IsHung s b → IsHung m b
  hung_mid told b hung = ⊎_elim
      (λ r. inl (reaches_mid told 1 b super_place (x.laws.super_stands told) r))
      (λ h. let apart : m.apart h.top = (x.came.stays.apart h.top (top_ne told h) (λ n. n)).1 h.is_apart in inr (record {
        top = h.top;
        is_apart = apart;
        place = h.place;
        stands = x.came.stays.places told h.top h.place (top_ne told h) (λ n. n) (x.came.only h.top (top_ne told h) h.uncovered) (rooted_of_apart m h.top apart) h.stands;
        uncovered = x.came.only h.top (top_ne told h) h.uncovered;
        reaches = reaches_mid told h.top b h.place h.stands h.reaches;
      }))
      hung

  pub held_on : s.tells → IsHung m at
  held_on told = hung_mid told at (x.above.told told).hung

  -- what stands and hangs does so still, at its place
  pub stands_mid : s.tells → (b : ℕ) (p : Place) → s.stands b p → IsHung s b → (s.covered b → ⊥) → m.stands b p
  stands_mid told b p stands hung uncovered =
      let ne : b ≢ result = λ e. (x.came.was.3 told).1 p (subst (λ y. s.stands y p) e stands) in
      x.came.stays.places told b p ne (λ h. h) (x.came.only b ne uncovered) (rooted_of_hung m x.later.active (hung_mid told b hung)) stands

  pub at_place : s.tells → m.stands at (place (kind_at t.dir (suc level)) t.tag k (t.rank + suc level))
  at_place told = x.came.stays.places told at (place (kind_at t.dir (suc level)) t.tag k (t.rank + suc level)) at_ne (λ h. h) (x.came.only at at_ne (x.above.told told).uncovered) (rooted_of_hung m x.later.active (held_on told)) (x.above.told told).stands

  pub held : s.tells → IsHeld m at
  held told = ⊎_elim (λ r. inl r) (λ h. inr (h.top, h.is_apart, h.reaches)) (held_on told)

  -- no entry stands in a block of pointers
  pub unwaited : (a j : ℕ) → m.waits a at j → ⊥
  unwaited a j w = not_entries t.dir level (sym at_kind ∙ x.later.waits_within a at j w)

  -- what a put asks over any device
  pub may_spell : (i < slot_count (m.label at).kind) × SlotFits (m.label at).kind i (To (Local result))
  may_spell = subst (λ q. (i < slot_count q) × SlotFits q i (To (Local result))) (sym at_kind) (subst (λ n. i < n) (sym (inner_slots t.dir level)) x.few, pointer_fits t.dir level i (Local result) (x.later.small result x.came.is.0))

  pub may_settled : m.clearing at i → ⊥
  may_settled h = not_entries t.dir level (sym at_kind ∙ (x.later.clears at i h).0)

  pub may_lead : (b : ℕ) → Local result ≡ Local b → m.is_block b × (b ≢ at)
  may_lead b e = (subst (λ y. m.is_block y) (local_eq e) x.came.is.0, λ h. at_ne (sym (local_eq e ∙ h)))

  pub none_dropped : dropped ((m.now at).slot i) (To (Local result)) ≡ 0
  none_dropped = ap (λ q. dropped q (To (Local result))) (slot_to i x.few)

  pub may_cost : cost ((m.now at).slot i) (To (Local result)) ≡ 0
  may_cost = ap (λ q. cost q (To (Local result))) (slot_to i x.few) ∙ cost_none (target ((m.now at).slot i)) result

  pub result_label : ((m.label result).state ≡ Live) × ((m.label result).epoch ≡ m.high)
  result_label = (ap (λ (q : Label). q.state) x.came.label ∙ x.is_live, ap (λ (q : Label). q.epoch) x.came.label ∙ x.is_current ∙ sym x.all.same_high)
