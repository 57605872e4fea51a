-- The end of a source was cleared, and a leaf past it was owned where the levels have room for it: what both calls change.
use Rattle.std.proofs.Common.{◌≡◌, ◌≢◌, ◌⊎◌, ◌+◌, ◌-◌, ◌*◌, ◌/◌, ◌%◌, ◌^◌, ◌<◌, ℕ, zero, suc, List, inl, inr, ⊎_elim, sym, ◌∙◌, subst, arith}
use Rattle.std.proofs.lemmas.Bool.{cases_eq}
use Rattle.fo_image.specs.declared.types.Pointer.{Pointer}
use Rattle.fo_image.specs.declared.types.Pointer.TheVariants.{Nil, Local}
use Rattle.fo_ports.specs.of_crash.declared.place.Place.{Place}
use Rattle.fo_ports.specs.of_crash.Images.{Image}
use Rattle.fo_ports.specs.of_crash.Places.{IsPlaced, RanksFall}
use Rattle.fo_ports.specs.State.{State, KeepsAll}
use Rattle.fo_ports.specs.Sources.{Made, Changes, MayZero}
use Rattle.fo_tree_read.proofs.of_looks.Free.{Standing}
use Rattle.fo_tree_read.specs.declared.tree.Tree.{Tree}
use Rattle.fo_tree_read.specs.Tree.{kind_at, block_at}
use Rattle.fo_tree_look.specs.declared.ways.Kept.{Kept}
use Rattle.fo_tree_look.specs.Source.{HasBlock, Over, IsPlainTree, Ready, WayReady, form_of, leaves_of}
use Rattle.fo_tree_look.proofs.Shown.{top_ready}
use Rattle.fo_tree_clear.specs.of_tree_down.Way.{OnWay, Descends, IsWayIndex, with_top}
use Rattle.fo_tree_clear.specs.of_tree_down.Clear.{EndsClear, last_leaf}
use Rattle.fo_tree_clear.proofs.of_tree_down.Join.{level_same}
use Rattle.fo_tree_clear.proofs.of_tree_down.Next.{local_seen}
use Rattle.fo_tree_clear.proofs.of_tree_down.Beside.{index_last, index_within, way_block, on_way_block}
use Rattle.fo_tree_clear.proofs.of_tree_down.Stilling.{index_one}
use Rattle.fo_tree_lift.proofs.of_tree_raise.Clear.{way_part, way_past}
use Rattle.fo_tree_lift.specs.of_tree_grow.Grow.{sized}
use Rattle.fo_tree_lift.proofs.of_tree_grow.Sizing.{sized_block}
use Rattle.fo_tree_clear.specs.Steps.{Steps, IsStep}
use Rattle.fo_tree_clear.proofs.Stepping.{Follows, steps_join, steps_changes}
use Rattle.fo_tree_clear.proofs.Descending.{steps_down}
use Rattle.fo_tree_clear.proofs.Zeros.{end_block}
use Rattle.fo_tree_clear.proofs.of_tree_down.Join.{local_cases}

nil_local : (b : ℕ) → Nil ≡ Local b → ⊥
nil_local b e = cc

-- a block is on a way, or isn't
way_cases : (s : State) (t : Tree) (n k b : ℕ) → OnWay s t n k b ⊎ (OnWay s t n k b → ⊥)
way_cases s t zero k b = local_cases (block_at s t zero k) b
way_cases s t (suc n) k b = ⊎_elim
    (λ above. inl (inl above))
    (λ not. ⊎_elim (λ e. inl (inr e)) (λ ne. inr (λ on. ⊎_elim not ne on)) (local_cases (block_at s t (suc n) k) b))
    (way_cases s t n (k / 409) b)

-- a way of the tree with another size
way_sized_back : (s : State) (t : Tree) (z n k b : ℕ) → OnWay s (sized t z) n k b → OnWay s t n k b
way_sized_back s t z zero k b on = on
way_sized_back s t z (suc n) k b on = ⊎_elim (λ above. inl (way_sized_back s t z n (k / 409) b above)) (λ e. inr (sym (sized_block s t z (suc n) k) ∙ e)) on

-- more blocks may be the source's
pub steps_wider : {tag : ℕ} {mine more inner outer : ℕ → Type 0} {s u : State} → ((b : ℕ) → mine b → more b) → ((b : ℕ) → inner b → outer b) → Steps tag mine inner s u → Steps tag more outer s u
steps_wider m n x = record {
  memory = λ b not. x.memory b (λ t. not (⊎_elim (λ made. inl made) (λ own. inr (n b own.0, own.1, own.2)) t));
  slots = x.slots;
  images = λ image is. let e = x.images image is in record {
    other = e.other;
    was = e.was;
    same = λ b not. e.same b (λ t. not (⊎_elim (λ made. inl made) (λ own. inr (n b own.0, own.1, own.2)) t));
    slots = e.slots;
    apart = e.apart;
  };
  made = x.made;
  free = x.free;
  others = x.others;
  apart = x.apart;
  places = λ told b p not other free r stands. x.places told b p not (λ own. other (m b own)) free r stands;
  rooted = x.rooted;
  instead = λ b y h. ⊎_elim (λ old. inl old) (λ new. inr (new.0, m y new.1, new.2)) (x.instead b y h);
  still = x.still;
  only = λ b no other h. x.only b no (λ own. other (m b own)) h;
  aged = x.aged;
  leaves = x.leaves;
  in_tree = λ told b other r. x.in_tree told b (λ own. other (m b own)) r;
  current = x.current;
  waits = x.waits;
  no_wait = x.no_wait;
  clearing = x.clearing;
  goes_on = x.goes_on;
  dirty = λ b d. ⊎_elim (λ old. inl old) (λ h. inr (⊎_elim (λ t. inl (⊎_elim (λ made. inl made) (λ own. inr (m b own.0, own.1, own.2)) t)) (λ label. inr label) h)) (x.dirty b d);
  moments = x.moments;
  left = x.left;
  pins = x.pins;
  usable = x.usable;
  room = x.room;
  numbers = x.numbers;
  all = x.all;
}

-- a block of a way that was prepared is no leaf, or the last one of the way
way_inner : (s : State) (t : Tree) (kept : List Kept) (j b : ℕ) → j < 409 ^ t.depth → WayReady s t kept t.depth j → OnWay s t t.depth j b → (HasBlock s t b × ((s.label b).kind ≢ kind_at t.dir 0)) ⊎ (block_at s t t.depth j ≡ Local b)
way_inner s t kept j b few ready on =
    let w = way_block s t t.depth j b few on in
    let low = index_within t.depth j w.down w.index w.is_way in
    let there : Ready s t kept w.down (Local b) = subst (λ (p : Pointer). Ready s t kept w.down p) (local_seen s kept t w.down w.index b w.is) (top_ready s t kept w.down w.index (way_part s t kept t.depth j w.down w.index w.is_way ready)) in
    ⊎_elim
    (λ e.
    let index : w.index ≡ j = index_one t.depth j t.depth w.index j (subst (λ d. IsWayIndex t.depth j d w.index) e w.is_way) (index_last t.depth j) in
    inr (subst (λ k. block_at s t t.depth k ≡ Local b) index (subst (λ d. block_at s t d w.index ≡ Local b) e w.is)))
    (λ ne. inl (
      on_way_block s t t.depth j b (omega arith) on,
      λ kind. let same : t.depth - w.down ≡ 0 = level_same t.dir (t.depth - w.down) 0 (sym there.has_kind ∙ kind) in ne (omega (arith, same, low)),
    ))
    (cases_eq w.down t.depth)

-- What is known of the first call.
pub record Begun (s m : State) (t : Tree) (kept : List Kept) (limit top i : ℕ) : Type 0 where
  pub over : Over s t kept limit
  pub plain : IsPlainTree t
  pub some : 0 < t.size % 8192
  pub past : t.size < 8192 * (i + 1)
  pub clear : EndsClear s t kept
  pub step : IsStep s m t kept (t.size / 8192) top

abbrev pub Inner : State → Tree → List Kept → ℕ → (generation limit : ℕ) → ℕ → Type 0
Inner s t kept i generation l b = MayZero (form_of t generation l) t.size i s (leaves_of s t kept l) b

module _ {s m : State} {t : Tree} {kept : List Kept} {limit top i : ℕ} (x : Begun s m t kept limit top i) (generation l : ℕ) where
  started : 0 < t.size
  started = let some = x.some in omega (arith, some)

  last_is : last_leaf t.size ≡ t.size / 8192
  last_is = let some = x.some in omega (arith, some)

  last_few : t.size / 8192 < 409 ^ t.depth
  last_few = let some = x.some in let room = x.over.hangs.room in omega (arith, some, room)

  end_inner : (b : ℕ) → block_at s t t.depth (t.size / 8192) ≡ Local b → Inner s t kept i generation l b
  end_inner b e =
      let some = x.some in
      inr (t.size / 8192, (x.plain, omega (arith, some), omega (arith, some)), x.past, end_block s t (t.size / 8192) b (omega (arith, some)) x.over.hangs.room e)

  inner_first : (b : ℕ) → OnWay s t t.depth (t.size / 8192) b → Inner s t kept i generation l b
  inner_first b on = ⊎_elim
      (λ inner. inl inner)
      (λ e. end_inner b e)
      (way_inner s t kept (t.size / 8192) b last_few (subst (λ k. WayReady s t kept t.depth k) last_is (x.clear.way started)) on)

  pub steps_first : Steps t.tag (HasBlock s t) (Inner s t kept i generation l) s m
  steps_first = steps_wider (λ b on. on_way_block s t t.depth (t.size / 8192) b (omega arith) on) inner_first x.step.steps

-- What is known of both calls.
pub record Both (s m u : State) (t : Tree) (kept : List Kept) (limit top i : ℕ) : Type 0 where
  pub begun : Begun s m t kept limit top i
  pub mid : Over m (with_top t top) kept limit
  pub few : i < 409 ^ t.depth
  pub second : Descends (sized (with_top t top) (8192 * (i + 1))) (OnWay m (sized (with_top t top) (8192 * (i + 1))) t.depth i) 0 m u
  pub free : m.tells → (b : ℕ) → Made m u b → u.covered b → ⊥
  pub all : KeepsAll s u
  pub more : KeepsAll m u
  pub placed : (image : Image) → s.may_leave image → IsPlaced s.stands image
  pub ranked : (image : Image) → s.may_leave image → RanksFall s.stands image
  pub top_stands : (image : Image) → s.may_leave image → (up : ℕ) → s.tops up → (p : Place) × s.stands up p
  pub told : (image : Image) → s.may_leave image → s.tells
  pub standing : Standing s

module _ {s m u : State} {t : Tree} {kept : List Kept} {limit top i : ℕ} (x : Both s m u t kept limit top i) (generation l : ℕ) where
  abbrev Way : ℕ → Type 0
  Way b = OnWay m (sized (with_top t top) (8192 * (i + 1))) t.depth i b

  ready : WayReady s t kept t.depth i
  ready = let past = x.begun.past in way_past s t kept x.begun.clear i (omega (arith, past)) x.few

  way_was : (b : ℕ) → Way b → OnWay s t t.depth i b ⊎ Made s m b
  way_was b on = x.begun.step.ways i b ready (way_sized_back m (with_top t top) (8192 * (i + 1)) t.depth i b on)

  inner_second : (b : ℕ) → Way b → Inner s t kept i generation l b ⊎ Made s m b
  inner_second b on = ⊎_elim
      (λ old. ⊎_elim
      (λ inner. inl (inl inner))
      (λ e. ⊎_elim
      (λ same. inl (end_inner x.begun generation l b (subst (λ k. block_at s t t.depth k ≡ Local b) same e)))
      (λ ne.
      let past = x.begun.past in
      let is = last_is x.begun generation l in
      let none = x.begun.clear.behind (started x.begun generation l) t.depth (last_leaf t.size) i (index_last t.depth (last_leaf t.size)) (omega (arith, past, is, ne)) x.few in
      absurd (nil_local b (sym none ∙ local_seen s kept t t.depth i b e)))
      (cases_eq i (t.size / 8192)))
      (way_inner s t kept i b x.few ready old))
      (λ made. inr made)
      (way_was b on)

  has_mid : (b : ℕ) → Way b → HasBlock m (with_top t top) b
  has_mid b on = on_way_block m (with_top t top) t.depth i b (omega arith) (way_sized_back m (with_top t top) (8192 * (i + 1)) t.depth i b on)

  follows : Follows t.tag (HasBlock s t) (Inner s t kept i generation l) Way Way s m u
  follows = record {
    first = steps_first x.begun generation l;
    second = steps_down x.more x.second x.free;
    all = x.all;
    of = λ b on. ⊎_elim (λ old. inl (on_way_block s t t.depth i b (omega arith) old)) (λ made. inr made) (way_was b on);
    within = inner_second;
    cases = λ b. way_cases m (sized (with_top t top) (8192 * (i + 1))) t.depth i b;
    rooted = λ told b on older. (x.mid.told told b (has_mid b on)).in_tree older;
    up_to = λ told b on. (x.mid.told told b (has_mid b on)).up_to;
    placed = x.placed;
    ranked = x.ranked;
    top_stands = x.top_stands;
    told = x.told;
    standing = x.standing;
  }

  pub changes_next : Changes t.tag (HasBlock s t) (Inner s t kept i generation l) s u
  changes_next = steps_changes (steps_join follows)
