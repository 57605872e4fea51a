-- A leaf past the levels of a source was owned.
use Rattle.std.proofs.Common.{◌≡◌, ◌⊎◌, ◌+◌, ◌-◌, ◌*◌, ◌%◌, ◌^◌, ◌<◌, ◌≤◌, ℕ, suc, List, inl, inr, ⊎_elim, refl, sym, ◌∙◌, ap, subst, arith}
use Rattle.fo_sparse.specs.Written.{resized}
use Rattle.fo_image.specs.declared.types.Label.{Label}
use Rattle.fo_image.specs.declared.types.Pointer.{Pointer}
use Rattle.fo_image.specs.declared.types.Pointer.TheVariants.{Local}
use Rattle.fo_ports.specs.of_crash.Images.{Reaches, to_block}
use Rattle.fo_ports.specs.State.{State, KeepsAll, none}
use Rattle.fo_ports.specs.Sources.{Made, Owned, Grows, Changes, depth_for}
use Rattle.fo_tree_read.specs.declared.tree.Tree.{Tree}
use Rattle.fo_tree_read.specs.Tree.{block_at}
use Rattle.fo_tree_look.specs.declared.ways.Kept.{Kept}
use Rattle.fo_tree_look.specs.Source.{HasBlock, Over, IsPlainTree, Prepared, WayReady, IsTopCurrent, form_of, leaves_of}
use Rattle.fo_tree_look.proofs.Shown.{held_on, top_ready}
use Rattle.fo_tree_grow.specs.of_tree_down.Way.{OnWay, IsWayIndex, Comes, Replaces, StaysBeside, IsTopOf, with_top}
use Rattle.fo_tree_grow.proofs.of_tree_down.Beside.{index_last}
use Rattle.fo_tree_grow.specs.of_tree_down.Clear.{EndsClear, last_leaf}
use Rattle.fo_tree_grow.specs.of_tree_raise.Levels.{grown}
use Rattle.fo_tree_grow.proofs.of_tree_raise.Climbing.{room_more}
use Rattle.fo_tree_grow.proofs.of_tree_leaf.Owning.{LeafCame}
use Rattle.fo_tree_grow.specs.Grow.{sized, TailClear}
use Rattle.fo_tree_grow.proofs.Sizing.{room_for, has_back, has_sized, way_to, prepared_sized, clear_sized}
use Rattle.fo_tree_grow.proofs.Empty.{least_for}
use Rattle.fo_tree_lift.specs.Lift.{Lifts, InSteadOf}
use Rattle.fo_tree_lift.proofs.Lifting.{over_lifted, way_top}
use Rattle.fo_tree_lift.proofs.Above.{GoesBelow, changes_above, in_tree_end, only_end, instead_above, made_first, made_second, made_either}
use Rattle.fo_tree_lift.proofs.Join.{live_cases}
use Rattle.fo_tree_lift.proofs.Having.{LeafRaised, owned_raised, bytes_raised}

local_eq : {a b : ℕ} → Local a ≡ Local b → a ≡ b
local_eq e = cc

cases_made : (old new : State) (at : ℕ) → Made old new at ⊎ (Made old new at → ⊥)
cases_made old new at = ⊎_elim (λ was. inr (λ m. m.0 was)) (λ no. ⊎_elim (λ is. inl (no, is)) (λ not. inr (λ m. not m.1)) (live_cases (new.label at).state)) (live_cases (old.label at).state)

-- The source with its levels, and with the leaf.
abbrev pub taller : Tree → ℕ → Pointer → ℕ → Tree
taller t levels p i = sized (grown t levels p) (8192 * (i + 1))

-- Levels were put above a source, as many as leaf i asks for.
pub record IsRaised (s m : State) (t : Tree) (kept : List Kept) (levels : ℕ) (p : Pointer) (i : ℕ) : Type 0 where
  pub lifts : Lifts s m t kept levels p
  pub most : ℕ
  pub over : Over s t kept most
  pub end : 8192 * (i + 1) ≤ most
  pub some : 0 < t.size
  pub more : 0 < levels
  pub depth : t.depth + levels ≡ depth_for (8192 * (i + 1))
  pub all : KeepsAll s m

module _ {s m : State} {t : Tree} {kept : List Kept} {levels : ℕ} {p : Pointer} {i : ℕ} (x : IsRaised s m t kept levels p i) where
  low : 8192 * (i + 1) ≤ 2 ^ 47
  low = let end = x.end in let over = x.over.low in omega (arith, end, over)

  pub room : 8192 * (i + 1) ≤ 8192 * 409 ^ (t.depth + levels)
  room = subst (λ d. 8192 * (i + 1) ≤ 8192 * 409 ^ d) (sym x.depth) (room_for (8192 * (i + 1)) low)

  pub few : i < 409 ^ (t.depth + levels)
  few = let le = room in omega (arith, le)

  -- with one level less there is no room
  beyond : 409 ^ (t.depth + (levels - 1)) ≤ i
  beyond =
      let depth = x.depth in
      let more = x.more in
      let lt : 8192 * 409 ^ (t.depth + (levels - 1)) < 8192 * (i + 1) = (least_for (8192 * (i + 1)) low).least (t.depth + (levels - 1)) (omega (arith, depth, more)) in
      omega (arith, lt)

  small : t.size ≤ 8192 * 409 ^ (t.depth + (levels - 1))
  small = room_more t.size t.depth (levels - 1) x.over.hangs.room

  pub past : t.size ≤ 8192 * i
  past = let le = small in let ge = beyond in omega (arith, le, ge)

  longer : t.size ≤ 8192 * (i + 1)
  longer = let le = past in omega (arith, le)

  pub over_mid : (limit : ℕ) → 8192 * (i + 1) ≤ limit → limit ≤ 2 ^ 47 → Over m (taller t levels p i) kept limit
  over_mid limit within few = over_lifted m (grown t levels p) (8192 * (i + 1)) limit kept (omega arith) within few x.depth x.lifts.bears

  pub way_mid : WayReady m (taller t levels p i) kept (t.depth + levels) i
  way_mid = way_to m (grown t levels p) (8192 * (i + 1)) kept x.lifts.clear longer room i longer few

  pub prepared_mid : (limit o n : ℕ) → Prepared s t kept limit o n → Prepared m (taller t levels p i) kept limit o n
  prepared_mid limit o n was = prepared_sized m (grown t levels p) (8192 * (i + 1)) kept x.lifts.clear longer room limit o n (x.lifts.still limit o n was)

  pub current_mid : IsTopCurrent m (taller t levels p i)
  current_mid = record { at = x.lifts.new.at; is = x.lifts.new.is; current = (x.lifts.adds.made x.lifts.new.at x.lifts.new.made).labelled.0 ∙ sym x.all.same_high }

  pub clear_mid : EndsClear m (taller t levels p i) kept
  clear_mid = clear_sized m (grown t levels p) (8192 * (i + 1)) kept x.lifts.clear longer room (omega arith)

  only_mid : (b : ℕ) → OnWay m (taller t levels p i) (t.depth + levels) i b → b ≡ x.lifts.new.at
  only_mid b way =
      let more = x.more in
      let le = small in
      let some = x.some in
      let level : suc (t.depth + (levels - 1)) ≡ t.depth + levels = omega (arith, more) in
      let index = index_last (t.depth + levels) (last_leaf t.size) in
      way_top m (grown t levels p) (8192 * (i + 1)) kept x.lifts.clear x.some x.lifts.new.at x.lifts.new.is (t.depth + (levels - 1)) (last_leaf t.size) i b
      (subst (λ d. IsWayIndex (t.depth + levels) (last_leaf t.size) d (last_leaf t.size)) (sym level) index)
      (omega (arith, le, some))
      beyond
      (subst (λ d. i < 409 ^ d) (sym level) few)
      (subst (λ d. OnWay m (taller t levels p i) d i b) (sym level) way)

  pub named_mid : (b : ℕ) → OnWay m (taller t levels p i) (t.depth + levels) i b → p ≡ Local b
  named_mid b way = x.lifts.new.is ∙ ap (λ y. Local y) (sym (only_mid b way))

-- What is known of a way that was made current.
pub record WayCame (m u : State) (t : Tree) (kept : List Kept) (down k top at : ℕ) : Type 0 where
  pub comes : Comes m u t kept down k at
  pub leads : block_at u (with_top t top) down k ≡ Local at
  pub replaces : Replaces m u t down k at
  pub top_of : IsTopOf m u t top
  pub beside : m.tells → StaysBeside m u t (with_top t top) down k
  pub over : 0 < t.size → (limit : ℕ) → Over m t kept limit → Over u (with_top t top) kept limit
  pub owns : m.tells → (b : ℕ) → (HasBlock u (with_top t top) b → HasBlock m t b ⊎ Made m u b) × (Made m u b → HasBlock u (with_top t top) b)
  pub stays : m.tells → (b : ℕ) → HasBlock m t b → (m.label b).epoch ≡ m.high → HasBlock u (with_top t top) b
  pub still : (limit o n : ℕ) → Prepared m t kept limit o n → Prepared u (with_top t top) kept limit o n
  pub more : KeepsAll m u

module _ {s m u : State} {t : Tree} {kept : List Kept} {levels : ℕ} {p : Pointer} {i top at : ℕ} (x : IsRaised s m t kept levels p i) (w : WayCame m u (taller t levels p i) kept (t.depth + levels) i top at) where
  mid : s.tells → m.tells
  mid told = x.all.still_tells.1 told

  over_most : Over m (taller t levels p i) kept x.most
  over_most = over_mid x x.most x.end x.over.low

  pub over_end : (limit : ℕ) → 8192 * (i + 1) ≤ limit → Over s t kept limit → Over u (with_top (taller t levels p i) top) kept limit
  over_end limit within over = w.over (omega arith) limit (over_mid x limit within over.low)

  below : GoesBelow (taller t levels p i) (λ b. t.top ≡ Local b) (λ b. t.top ≡ Local b) (OnWay m (taller t levels p i) (t.depth + levels) i) (t.depth + levels - (t.depth + levels)) x.lifts.new.at s m u
  below = record {
    first = x.lifts.adds;
    second = w.comes.descends;
    made = x.lifts.new.made;
    only = only_mid x;
    within = λ b e. e;
    all = x.all;
    more = w.more;
  }

  pub changes_end : Changes t.tag (λ b. t.top ≡ Local b) none s u
  changes_end = changes_above below

  pub instead_end : (b y : ℕ) → u.instead b y → s.instead b y ⊎ (Made s u b × InSteadOf s t y)
  instead_end b y h =
      let was = instead_above below b y h in
      ⊎_elim
      (λ old. inl old.1)
      (λ new. inr (made_first below b new.0, x.lifts.instead b y new.0 was))
      (x.lifts.adds.instead b y was)

  came : (limit : ℕ) → LeafCame m u (taller t levels p i) kept limit top i at
  came limit = record {
    all = w.more;
    inside = omega arith;
    few = few x;
    comes = w.comes;
    replaces = w.replaces;
    leads = w.leads;
    ready = top_ready m (taller t levels p i) kept (t.depth + levels) i (way_mid x);
    beside = w.beside;
    held = over_most.held;
    still_held = held_on w.more kept over_most.held;
  }

  leaf : TailClear s t kept → (limit : ℕ) → LeafRaised s m u t kept limit levels p (8192 * (i + 1)) i top at
  leaf tail limit = record {
    lifts = x.lifts;
    most = x.most;
    over = x.over;
    tail = tail;
    past = past x;
    end = refl;
    room = room x;
    came = came limit;
    only = named_mid x;
    all = x.all;
  }

  pub owned_end : TailClear s t kept → (generation limit : ℕ) → Owned (form_of t generation limit) t.size i at s u (leaves_of s t kept limit) (leaves_of u (with_top (taller t levels p i) top) kept limit)
  owned_end tail generation limit = owned_raised (leaf tail limit) generation

  pub bytes_end : TailClear s t kept → (limit : ℕ) → s.tells → IsPlainTree t ⊎ (t.size % 8192 ≡ 0) → (leaves_of u (with_top (taller t levels p i) top) kept limit).bytes ≡ resized ((leaves_of s t kept limit).bytes) (8192 * (i + 1))
  bytes_end tail limit told ends = bytes_raised (leaf tail limit) told ends (λ b has. (over_most.told (mid told) b has).live)

  -- what was given out is of the source
  made_has : s.tells → (b : ℕ) → Made s u b → HasBlock u (with_top (taller t levels p i) top) b
  made_has told b made = ⊎_elim
      (λ old. w.stays (mid told) b (has_sized m (grown t levels p) (8192 * (i + 1)) b ((x.lifts.owns told b).1 old)) ((x.lifts.adds.made b old).labelled.0 ∙ sym x.all.same_high))
      (λ new. (w.owns (mid told) b).1 new)
      (made_either below b made)

  has_old : s.tells → (b : ℕ) → HasBlock u (with_top (taller t levels p i) top) b → HasBlock s t b ⊎ Made s u b
  has_old told b has = ⊎_elim
      (λ old. ⊎_elim (λ was. inl was) (λ made. inr (made_first below b made)) ((x.lifts.owns told b).0 (has_back m (grown t levels p) (8192 * (i + 1)) b old)))
      (λ made. inr (made_second below b made))
      ((w.owns (mid told) b).0 has)

  pub grows_end : (limit : ℕ) → Grows s u (leaves_of s t kept limit) (leaves_of u (with_top (taller t levels p i) top) kept limit)
  grows_end limit = record {
    owns = λ told b. (has_old told b, made_has told b);
    still = λ o n was. w.still limit o n (prepared_mid x limit o n was);
  }

  pub stays_end : s.tells → (b : ℕ) → HasBlock s t b → (s.label b).epoch ≡ s.high → HasBlock u (with_top (taller t levels p i) top) b
  stays_end told b has current =
      let on = x.lifts.stays told b has current in
      let now : (m.label b).epoch ≡ m.high = ⊎_elim
      (λ made. (x.lifts.adds.made b made).labelled.0 ∙ sym x.all.same_high)
      (λ not. ap (λ (l : Label). l.epoch) (x.lifts.adds.labels b not) ∙ current ∙ sym x.all.same_high)
      (cases_made s m b) in
      w.stays (mid told) b (has_sized m (grown t levels p) (8192 * (i + 1)) b on) now

  pub tree_end : s.tells → (b : ℕ) → Reaches s.now (to_block 1) b → Reaches u.now (to_block 1) b
  tree_end told b r = in_tree_end below told b r

  pub covered_end : (b : ℕ) → (s.covered b → ⊥) → u.covered b → ⊥
  covered_end b not h = only_end below b not h

  pub new_end : Made s u top
  new_end = ⊎_elim (λ made. made_second below top made) (λ e. made_first below top (subst (λ y. Made s m y) (local_eq (sym x.lifts.new.is ∙ e)) x.lifts.new.made)) w.top_of.from

  pub top_end : IsTopOf s u t top
  top_end =
      let is = w.top_of in
      record {
        from = inl (⊎_elim (λ made. made_second below top made) (λ e. made_first below top (old_made e)) is.from);
        apart = λ made. ⊎_elim (λ new. is.apart new) (λ e. stays_apart e) is.from;
        comes = λ told from h. is.comes (mid told) from (x.lifts.comes told from h);
        only = λ told y z h. ⊎_elim
            (λ own. inl own)
            (λ old. ⊎_elim
            (λ e. absurd (old.1 e))
            (λ was. inr was)
            (x.lifts.only told y z old.0))
            (is.only (mid told) y z h);
        live = is.live;
        current = is.current;
      }
    where
      same : p ≡ Local top → x.lifts.new.at ≡ top
      same e = local_eq (sym x.lifts.new.is ∙ e)

      old_made : p ≡ Local top → Made s m top
      old_made e = subst (λ y. Made s m y) (same e) x.lifts.new.made

      stays_apart : p ≡ Local top → u.apart top
      stays_apart e = (w.comes.descends.apart top (λ n. n.0 (old_made e).1)).1 (subst (λ y. m.apart y) (same e) x.lifts.new.is_apart)

  pub current_end : IsTopCurrent u (with_top (taller t levels p i) top)
  current_end = record { at = top; is = refl; current = w.top_of.current }

  pub room_end : u.room ≡ s.room
  room_end = w.comes.descends.room ∙ x.lifts.adds.room
