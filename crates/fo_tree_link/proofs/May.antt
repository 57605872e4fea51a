-- A source's entry may be put.
use Rattle.std.proofs.Common.{◌≡◌, ◌≢◌, ◌⊎◌, ◌+◌, ◌-◌, ◌*◌, ◌/◌, ◌%◌, ◌<◌, ◌≤◌, ℕ, zero, suc, Bool, true, false, List, [], ◌∷◌, inl, inr, ⊎_elim, refl, sym, ◌∙◌, ap, subst, arith}
use Rattle.std.proofs.lemmas.Bool.{cases_eq, cases_lt}
use Rattle.fo_image.specs.declared.types.Entry.{Entry}
use Rattle.fo_image.specs.declared.types.State.TheVariants.{Live}
use Rattle.fo_image.specs.declared.types.Score.{Score}
use Rattle.fo_image.specs.declared.types.Pointer.{Pointer}
use Rattle.fo_image.specs.declared.types.Pointer.TheVariants.{Nil, Local, Score as Held}
use Rattle.fo_crash.specs.declared.slot.Slot.{Slot}
use Rattle.fo_crash.specs.declared.slot.Slot.TheVariants.{Entry as Head}
use Rattle.fo_crash.specs.declared.place.Place.{Place}
use Rattle.fo_crash.specs.Images.{Reaches, target, walk, local, to_block}
use Rattle.fo_crash.specs.Places.{place, place_below, super_place}
use Rattle.fo_crash.specs.Spots.{slots_of, FewSlots}
use Rattle.fo_crash.proofs.Places.{stands_below, never_above, never_back}
use Rattle.fo_crash.proofs.Reach.{reaches_on, reaches_from, reaches_joins, reaches_same}
use Rattle.fo_ports.specs.Blocks.{IsEntry, SlotFits, slot_count, zeros, dropped}
use Rattle.fo_ports.specs.State.{State, Comes, MayPutSlot}
use Rattle.fo_ports.specs.Sources.{ComesFor}
use Rattle.fo_tree_read.specs.declared.tree.Tree.{Tree}
use Rattle.fo_tree_read.specs.Tree.{kind_at, kind_down, below, block_at}
use Rattle.fo_tree_read.proofs.Walk.{is_down}
use Rattle.fo_tree_look.specs.declared.ways.Kept.{Kept}
use Rattle.fo_tree_look.specs.Source.{HasBlock, Over}
use Rattle.fo_tree_down.proofs.of_tree_own.Link.{Laws}
use Rattle.fo_tree_open.specs.Open.{HasEntry}
use Rattle.fo_tree_open.proofs.Opened.{entry_within, place_named}
use Rattle.fo_tree_link.specs.Link.{entry_of, led_from, CanLink}
use Rattle.fo_tree_link.proofs.Walks.{local_eq, From, from_slot, step_down, fits_entry, not_inner, rank_lower, least_is}

-- A source's entry is to be put.
pub record Linking (s : State) (t : Tree) (kept : List Kept) (limit generation at i : ℕ) : Type 0 where
  pub laws : Laws s
  pub few : s.tells → FewSlots s.stands s.now
  pub falls : s.tells → (b j below : ℕ) → b ≢ 1 → Reaches s.now (to_block 1) b → target ((s.now b).slot j) ≡ Local below → (s.label below).epoch ≤ (s.label b).epoch
  pub one_stays : s.covered 1 → ⊥
  pub over : Over s t kept limit
  pub leaf : HasEntry (s.label at).kind i
  pub told : s.tells → CanLink s t generation at i

few_slots : (dir : Bool) (level : ℕ) → slots_of (kind_at dir level) ≤ 409
few_slots true zero = omega arith
few_slots true (suc level) = omega arith
few_slots false zero = omega arith
few_slots false (suc level) = omega arith

no_slots : (dir : Bool) (level : ℕ) → dir ≡ false → level ≡ 0 → slots_of (kind_at dir level) ≡ 0
no_slots dir level plain leaf = ap (λ d. slots_of (kind_at d level)) plain ∙ ap (λ l. slots_of (kind_at false l)) leaf

nil_local : (b : ℕ) → Nil ≡ Local b → ⊥
nil_local b e = cc

held_local : (score : Score) (b : ℕ) → Held score ≡ Local b → ⊥
held_local score b e = cc

not_both : {d : Bool} → d ≡ true → d ≡ false → ⊥
not_both is isnt = let e : true ≡ false = sym is ∙ isnt in cc

abbrev pub Fine : State → ℕ → Type 0
Fine s b = ((s.label b).state ≡ Live) × ((s.label b).epoch ≤ s.high) × (s.covered b → ⊥)

module _ {s : State} {t : Tree} {kept : List Kept} {limit generation at i : ℕ} (x : Linking s t kept limit generation at i) where
  abbrev pub e : Entry
  e = entry_of t generation

  abbrev pub old : Slot
  old = (s.now at).slot i

  abbrev pub led : Slot
  led = led_from s at i e

  -- ---- over any device

  pub entry_holds : IsEntry (Head e)
  entry_holds = (record { active_holds = (least_is t.size t.depth x.over.least x.over.hangs.room, x.over.holds) }, x.over.hangs.few)

  pub may_spell : (i < slot_count (s.label at).kind) × SlotFits (s.label at).kind i (Head e)
  may_spell = (entry_within (s.label at).kind i x.leaf, fits_entry (s.label at).kind i (Head e) x.leaf entry_holds)

  -- ---- where the device tells

  module _ (told : s.tells) where
    can : CanLink s t generation at i
    can = x.told told

    -- the place of the block with the entry
    pub there : (p : Place) × s.stands at p × ((p.rank < super_place.rank) ⊎ ((1 ≡ at) × (p ≡ super_place)))
    there = stands_below super_place (x.laws.placed told) (x.laws.ranked told) (x.laws.super_stands told) can.in_tree

    pub top_lower : t.rank + t.depth < there.0.rank
    top_lower = rank_lower there.0.kind there.0.rank i t.dir t.rank t.depth (can.ranked there.0 there.1) x.over.hangs.few

    top_low : t.rank + t.depth < super_place.rank
    top_low = let lt = top_lower in ⊎_elim
        (λ below. omega (arith, lt, below))
        (λ same. let is : there.0.rank ≡ super_place.rank = ap (λ (p : Place). p.rank) same.1 in omega (arith, lt, is))
        there.2

    top_stands : (b : ℕ) → t.top ≡ Local b → s.stands b (place (kind_at t.dir t.depth) t.tag 0 (t.rank + t.depth))
    top_stands b is = (x.over.hangs.told told b is).0

    -- nothing below the top is the block with the entry, or block 1
    pub top_never : (b : ℕ) → t.top ≡ Local b → Reaches s.now (to_block b) at → ⊥
    top_never b is r = never_above (place (kind_at t.dir t.depth) t.tag 0 (t.rank + t.depth)) there.0 x.laws.one (x.laws.placed told) (x.laws.ranked told) (top_stands b is) there.1 top_lower r

    top_not_one : (b : ℕ) → t.top ≡ Local b → Reaches s.now (to_block b) 1 → ⊥
    top_not_one b is r = never_above (place (kind_at t.dir t.depth) t.tag 0 (t.rank + t.depth)) super_place x.laws.one (x.laws.placed told) (x.laws.ranked told) (top_stands b is) (x.laws.super_stands told) top_low r

    -- nothing below the slot is, either
    pub old_never : Reaches s.now old at → ⊥
    old_never r = never_back there.0 x.laws.one (x.laws.placed told) (x.laws.ranked told) there.1 r

    old_not_one : (b : ℕ) → Reaches s.now old b → b ≢ 1
    old_not_one b r is = old_never (reaches_joins (subst (λ y. Reaches s.now old y) is r) can.in_tree)

    pub old_in_tree : (b : ℕ) → Reaches s.now old b → Reaches s.now (to_block 1) b
    old_in_tree b r = reaches_joins can.in_tree (reaches_from i r)

    -- ---- what hangs from the top

    slot_few : (n k a j c : ℕ) → n ≤ t.depth → block_at s t n k ≡ Local a → target ((s.now a).slot j) ≡ Local c → j < slots_of (kind_down t n)
    slot_few n k a j c le is f =
        let down = is_down s t (x.laws.placed told) x.over.hangs told n k a le is in
        (x.few told).each a j c (place (kind_down t n) t.tag down.index (t.rank + (t.depth - n))) down.stands f

    next : (n k a j c : ℕ) → j < 409 → block_at s t n k ≡ Local a → target ((s.now a).slot j) ≡ Local c → block_at s t (suc n) (409 * k + j) ≡ Local c
    next n k a j c lt is f =
        let up : (409 * k + j) / 409 ≡ k = omega (arith, lt) in
        let rest : (409 * k + j) % 409 ≡ j = omega (arith, lt) in
        ap (λ y. below s (kind_down t n) (block_at s t n y) ((409 * k + j) % 409)) up
        ∙ ap (λ y. below s (kind_down t n) (block_at s t n k) y) rest
        ∙ ap (λ (p : Pointer). below s (kind_down t n) p j) is
        ∙ f

    -- it is a block of the source, or hangs from one that the source's entries name, and so from block 1
    abbrev OwnOrNamed : ℕ → Type 0
    OwnOrNamed b = HasBlock s t b ⊎ ((t.dir ≡ true) × Reaches s.now (to_block 1) b)

    own_or_named : (path : List ℕ) (n k a b : ℕ) → n ≤ t.depth → block_at s t n k ≡ Local a → target (walk s.now (to_block a) path) ≡ Local b → OwnOrNamed b
    own_or_named [] n k a b le is f = inl (record { down = n; index = k; within = le; is = is ∙ f })
    own_or_named (j ∷ path) n k a b le is f = by (λ m c k' near here leads. own_or_named path m k' c b near here leads) (target ((s.now a).slot j)) refl
      where
        from : (c : ℕ) → target ((s.now a).slot j) ≡ Local c → target (walk s.now (to_block c) path) ≡ Local b
        from c g = (reaches_path path g f)
          where
            reaches_path : (path : List ℕ) → target ((s.now a).slot j) ≡ Local c → target (walk s.now ((s.now a).slot j) path) ≡ Local b → target (walk s.now (to_block c) path) ≡ Local b
            reaches_path [] g h = sym g ∙ h
            reaches_path (m ∷ rest) g h = ap (λ (p : Pointer). target (walk s.now ((local s.now p).slot m) rest)) (sym g) ∙ h

        by : ((m c k' : ℕ) → m ≤ t.depth → block_at s t m k' ≡ Local c → target (walk s.now (to_block c) path) ≡ Local b → OwnOrNamed b) → (p : Pointer) → target ((s.now a).slot j) ≡ p → OwnOrNamed b
        by on Nil g = absurd (let w = step_down s.now a j b path f in nil_local w.block (sym g ∙ w.is))
        by on (Held score) g = absurd (let w = step_down s.now a j b path f in held_local score w.block (sym g ∙ w.is))
        by on (Local c) g =
            let lt = slot_few n k a j c le is g in
            let most : slots_of (kind_down t n) ≤ 409 = few_slots t.dir (t.depth - n) in
            ⊎_elim
            (λ inner. on (suc n) c (409 * k + j) (omega (arith, inner)) (next n k a j c (omega (arith, lt, most)) is g) (from c g))
            (λ leaf. by_kind t.dir refl lt (omega (arith, le, leaf)))
            (cases_lt n t.depth)
          where
            by_kind : (d : Bool) → t.dir ≡ d → j < slots_of (kind_down t n) → n ≡ t.depth → OwnOrNamed b
            by_kind true dir lt last = inr (dir, reaches_joins (can.names dir k a j c (subst (λ m. block_at s t m k ≡ Local a) last is) g) (record { path = path; leads = from c g }))
            by_kind false dir lt last = let none : slots_of (kind_down t n) ≡ 0 = no_slots t.dir (t.depth - n) dir (omega (arith, last)) in absurd (omega (arith, lt, none))

    -- all that hangs from a source of data is its own
    pub all_own : t.dir ≡ false → (b : ℕ) → Reaches s.now (Head e) b → HasBlock s t b
    all_own plain b r =
        let f = from_slot s.now (Head e) b r in
        ⊎_elim (λ own. own) (λ named. absurd (not_both named.0 plain)) (own_or_named f.reaches.path 0 0 f.block b (omega arith) f.is f.reaches.leads)

    pub new_fine : (b : ℕ) → Reaches s.now (Head e) b → Fine s b
    new_fine b r =
        let f = from_slot s.now (Head e) b r in
        ⊎_elim
        (λ own. let is = x.over.told told b own in (is.live, is.up_to, is.uncovered))
        (λ named. x.laws.live b told (λ one. top_not_one f.block f.is (subst (λ y. Reaches s.now (to_block f.block) y) one f.reaches)) named.1)
        (own_or_named f.reaches.path 0 0 f.block b (omega arith) f.is f.reaches.leads)

    -- ---- what leaves

    -- below an older block that hangs from block 1 all are older
    ages : (path : List ℕ) (w b : ℕ) → w ≢ 1 → Reaches s.now (to_block 1) w → target (walk s.now (to_block w) path) ≡ Local b → (s.label b).epoch ≤ (s.label w).epoch
    ages [] w b ne r f = subst (λ y. (s.label y).epoch ≤ (s.label w).epoch) (local_eq f) (omega arith)
    ages (j ∷ path) w b ne r f = by (λ c near reach leads. ages path c b near reach leads)
      where
        w' : From s.now ((s.now w).slot j) b
        w' = step_down s.now w j b path f

        c : ℕ
        c = w'.block

        by : ((c : ℕ) → c ≢ 1 → Reaches s.now (to_block 1) c → target (walk s.now (to_block c) path) ≡ Local b → (s.label b).epoch ≤ (s.label c).epoch) → (s.label b).epoch ≤ (s.label w).epoch
        by on =
            let one : (s.label w'.block).epoch ≤ (s.label w).epoch = x.falls told w j w'.block ne r w'.is in
            let rest : (s.label b).epoch ≤ (s.label w'.block).epoch = on w'.block not_one (reaches_on j r w'.is) (leads path w'.is f) in
            omega (arith, one, rest)
          where
            not_one : w'.block ≢ 1
            not_one is =
                let q = stands_below super_place (x.laws.placed told) (x.laws.ranked told) (x.laws.super_stands told) r in
                let back : Reaches s.now ((s.now w).slot j) 1 = record { path = []; leads = w'.is ∙ ap (λ y. Local y) is } in
                never_back q.0 x.laws.one (x.laws.placed told) (x.laws.ranked told) q.1 (reaches_joins back r)

            leads : (path : List ℕ) → target ((s.now w).slot j) ≡ Local w'.block → target (walk s.now ((s.now w).slot j) path) ≡ Local b → target (walk s.now (to_block w'.block) path) ≡ Local b
            leads [] g h = sym g ∙ h
            leads (m ∷ rest) g h = ap (λ (p : Pointer). target (walk s.now ((local s.now p).slot m) rest)) (sym g) ∙ h

    -- no level goes, or some do
    levels : (led ≡ old) ⊎ (0 < dropped old (Head e))
    levels = ⊎_elim (λ none. inl (ap (λ n. walk s.now old (zeros n)) none)) (λ some. inr (omega (arith, some))) (cases_eq (dropped old (Head e)) 0)

    down_here : (b y : ℕ) → t.top ≡ Local b → target old ≡ Local y → (z : ℕ) × (target led ≡ Local z)
    down_here b y is f = ⊎_elim (λ none. (y, ap (λ (q : Slot). target q) none ∙ f)) (λ some. can.down some b is) levels

    still_here : (b j : ℕ) → s.clearing b j → Reaches s.now old b → Reaches s.now led b
    still_here b j waits r = ⊎_elim (λ none. subst (λ q. Reaches s.now q b) (sym none) r) (λ some. can.still some b j waits r) levels

    led_under : (b : ℕ) → target led ≡ Local b → Reaches s.now old b
    led_under b is = record { path = zeros (dropped old (Head e)); leads = is }

    -- a source with a top comes in the place of what its entry leads to
    comes_at : (b : ℕ) → t.top ≡ Local b → ComesFor s t.top (target led)
    comes_at b is = ⊎_elim (λ gone. absurd (nil_local b (sym (x.over.empty gone.none) ∙ is))) (λ comes. comes) can.comes

    top_reached : (b : ℕ) → t.top ≡ Local b → Reaches s.now (Head e) b
    top_reached b is = record { path = []; leads = is }

    still_under : (b j : ℕ) → s.clearing b j → Reaches s.now led b → ComesFor s t.top (target led) → Reaches s.now (Head e) b
    still_under b j waits r (inl h) = reaches_same {s = led} {t = Head e} (sym h.0) r
    still_under b j waits r (inr h) =
        let f = from_slot s.now led b r in
        ⊎_elim
        (λ older.
        let under = led_under f.block f.is in
        let age : (s.label b).epoch ≤ (s.label f.block).epoch = ages f.reaches.path f.block b (old_not_one f.block under) (old_in_tree f.block under) f.reaches.leads in
        let young = (x.laws.clears b j waits).1 in
        absurd (omega (arith, older, age, young)))
        (λ down. reaches_joins (top_reached h.0 h.1) (reaches_joins down f.reaches))
        (h.2.keeps f.block f.is)

    -- ---- where it comes

    comes_here : (b : ℕ) → t.top ≡ Local b → ComesFor s t.top (target led) → Comes s at i old (Head e) b
    comes_here b is (inl h) = inl (sym h.0 ∙ is)
    comes_here b is (inr h) = by (target led) refl
      where
        same : h.0 ≡ b
        same = local_eq (sym h.1 ∙ is)

        by : (p : Pointer) → target led ≡ p → Comes s at i old (Head e) b
        by (Local y) f = inr (inl (y, subst (λ z. s.instead z y) same ((h.2.instead y).1 f), f))
        by Nil f = inr (inr ((λ y g. let d = down_here b y is g in nil_local d.0 (sym f ∙ d.1)), inr (inl ((subst (λ z. s.apart z) same h.2.is_apart, λ y g. nil_local y (sym f ∙ (h.2.instead y).0 (subst (λ z. s.instead z y) (sym same) g))), not_inner (s.label at).kind i x.leaf))))
        by (Held score) f = inr (inr ((λ y g. let d = down_here b y is g in held_local score d.0 (sym f ∙ d.1)), inr (inl ((subst (λ z. s.apart z) same h.2.is_apart, λ y g. held_local score y (sym f ∙ (h.2.instead y).0 (subst (λ z. s.instead z y) (sym same) g))), not_inner (s.label at).kind i x.leaf))))

    parent_here : (b : ℕ) → t.top ≡ Local b → (s.label b).epoch < s.high → ComesFor s t.top (target led) → target led ≡ Local b
    parent_here b is older (inl h) = sym h.0 ∙ is
    parent_here b is older (inr h) =
        let own = x.over.told told b (record { down = 0; index = 0; within = omega arith; is = is }) in
        absurd (x.laws.apart_hangs told b (subst (λ z. s.apart z) (local_eq (sym h.1 ∙ is)) h.2.is_apart) (own.in_tree older))

    pub may_put : MayPutSlot s at i (Head e)
    may_put = record {
      brings = record { each = λ b r. new_fine b r };
      fits = record { each = λ b p stands is. (place (kind_at t.dir t.depth) t.tag 0 (t.rank + t.depth), top_stands b is, inl (sym (place_named p i e t.rank (can.ranked p stands)))) };
      lower = λ b p stands is.
          let at_place : (place_below p i (Head e)).rank ≡ t.rank + t.depth = ap (λ (q : Place). q.rank) (place_named p i e t.rank (can.ranked p stands)) in
          let lt = rank_lower p.kind p.rank i t.dir t.rank t.depth (can.ranked p stands) x.over.hangs.few in
          omega (arith, at_place, lt);
      parent = record { each = λ b is older. parent_here b is older (comes_at b is) };
      comes = λ b is. comes_here b is (comes_at b is);
      leaves = record {
        each = λ y z is r. inr (top_reached y (can.only y z is r));
        still = λ b j waits r. ⊎_elim (λ gone. absurd (gone.still b j waits r)) (λ comes. still_under b j waits (still_here b j waits r) comes) can.comes;
      };
      uncovered = ⊎_elim (λ one h. x.one_stays (subst (λ y. s.covered y) one h)) (λ ne. (x.laws.live at told ne can.in_tree).2) (cases_eq at 1);
      first = λ inner first y g. absurd (not_inner (s.label at).kind i x.leaf inner);
      holder = inl can.in_tree;
      linked = λ some. can.in_tree;
      entry = λ outer b e ne. can.in_tree;
      keeps = λ c g. inr (reaches_on i can.in_tree g);
    }
