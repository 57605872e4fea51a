-- Levels were put above the top of a source, or above a copy of it.
use Rattle.std.proofs.Common.{◌≡◌, ◌⊎◌, ◌+◌, ◌-◌, ◌*◌, ◌/◌, ◌%◌, ◌^◌, ◌<◌, ◌≤◌, ℕ, zero, suc, List, length, inl, inr, ⊎_elim, sym, ◌∙◌, ap, subst, arith}
use Rattle.std.proofs.lemmas.Bool.{cases_eq}
use Rattle.std.proofs.Math.Nat.{pow-succ'}
use Rattle.fo_image.specs.declared.types.State.TheVariants.{Live}
use Rattle.fo_image.specs.declared.types.Pointer.{Pointer}
use Rattle.fo_image.specs.declared.types.Pointer.TheVariants.{Nil, Local}
use Rattle.fo_ports.specs.of_crash.declared.slot.Slot.{Slot}
use Rattle.fo_ports.specs.of_crash.Images.{SameContent, target}
use Rattle.fo_ports.specs.State.{State, KeepsAll}
use Rattle.fo_ports.specs.Sources.{Made, depth_for}
use Rattle.fo_tree_read.specs.declared.tree.Tree.{Tree}
use Rattle.fo_tree_read.specs.Tree.{kind_down, below, block_at, address_of}
use Rattle.fo_tree_look.specs.declared.ways.Kept.{Kept}
use Rattle.fo_tree_look.specs.Source.{HasBlock, Over, Prepared, Ready, WayReady, seen}
use Rattle.fo_tree_look.proofs.Held.{seen_address}
use Rattle.fo_tree_grow.specs.of_tree_down.Way.{OnWay, IsWayIndex, with_top}
use Rattle.fo_tree_grow.specs.of_tree_down.Clear.{EndsClear, last_leaf}
use Rattle.fo_tree_grow.specs.of_tree_raise.Raise.{Bears}
use Rattle.fo_tree_grow.specs.of_tree_raise.Levels.{IsTopAfter, InStead, Adds, KeepsWays, grown}
use Rattle.fo_tree_grow.proofs.of_tree_raise.Levels.{below_same}
use Rattle.fo_tree_grow.proofs.of_tree_raise.Clear.{index_above}
use Rattle.fo_tree_grow.specs.Grow.{sized}
use Rattle.fo_tree_grow.proofs.Sizing.{room_for, sized_block, has_back}
use Rattle.fo_tree_lift.specs.Lift.{IsCopied, IsNewTop, InSteadOf}
use Rattle.fo_tree_lift.proofs.Join.{Follows, made_first, made_second, made_either, same_joins}

local_eq : {a b : ℕ} → Local a ≡ Local b → a ≡ b
local_eq e = cc

pub new_top : {s m : State} {t : Tree} {levels : ℕ} {top : Pointer} → 0 < levels → IsTopAfter s m t levels top → IsNewTop s m top
new_top some is = let new = is.new some in record { at = new.0; is = new.1; made = new.2; is_apart = new.3 }

-- What a call says that put levels above a source.
pub record Raised (s m : State) (t : Tree) (kept : List Kept) (levels : ℕ) (top : Pointer) : Type 0 where
  pub top_of : IsTopAfter s m t levels top
  pub adds : Adds t.tag (λ b. t.top ≡ Local b) s m
  pub instead : (b y : ℕ) → Made s m b → m.instead b y → InStead s t y
  pub bears : 0 < t.size → Bears s t kept → Bears m (grown t levels top) kept
  pub leaves : s.tells → 0 < t.size → Bears s t kept → (k : ℕ) → k < 409 ^ t.depth → block_at m (grown t levels top) (t.depth + levels) k ≡ block_at s t t.depth k
  pub owns : s.tells → 0 < t.size → Bears s t kept → (b : ℕ) → (HasBlock m (grown t levels top) b → HasBlock s t b ⊎ Made s m b) × (Made s m b ⊎ HasBlock s t b → HasBlock m (grown t levels top) b)
  pub still : (limit o n : ℕ) → t.size ≤ 8192 * 409 ^ t.depth → Prepared s t kept limit o n → Prepared m (grown t levels top) kept limit o n
  pub clear : 0 < t.size → t.size ≤ 8192 * 409 ^ t.depth → EndsClear s t kept → EndsClear m (grown t levels top) kept
  pub ways : KeepsWays s m t kept levels top

-- the top of a way that was prepared
pub top_ready : (s : State) (t : Tree) (kept : List Kept) (n k : ℕ) → WayReady s t kept n k → Ready s t kept 0 t.top
top_ready s t kept zero k way = way
top_ready s t kept (suc n) k way = top_ready s t kept n (k / 409) way.0

-- ---- a copy of the top

pub record Copied (s c : State) (t : Tree) (at copy : ℕ) : Type 0 where
  pub all : KeepsAll s c
  pub is : t.top ≡ Local at
  pub older : (s.label at).epoch < s.high
  pub long : length ((s.now at).bytes) ≡ 8192
  pub made : Made s c copy
  pub given : (b : ℕ) → Made s c b → b ≡ copy
  pub adds : Adds t.tag (λ b. t.top ≡ Local b) s c
  pub content : SameContent (c.now copy) (s.now at)
  pub live : s.tells → (b : ℕ) → HasBlock s t b → (s.label b).state ≡ Live

module _ {s c : State} {t : Tree} {at copy : ℕ} (x : Copied s c t at copy) (told : s.tells) where
  -- below the copy all stands as it did
  pub copied_block : (n k : ℕ) → suc n ≤ t.depth → block_at c (with_top t copy) (suc n) k ≡ block_at s t (suc n) k
  copied_block zero k le = ap (λ (q : Slot). target q) (x.content.slots (k % 409)) ∙ sym (ap (λ (p : Pointer). below s (kind_down t zero) p (k % 409)) x.is)
  copied_block (suc n) k le =
      below_same s c (kind_down t (suc n)) (block_at s t (suc n) (k / 409)) (block_at c (with_top t copy) (suc n) (k / 409)) (k % 409)
      (copied_block n (k / 409) (omega (arith, le))) x.all.same_held
      (λ b e j. (x.adds.same b (λ made. made.0 (x.live told b (record { down = suc n; index = k / 409; within = omega (arith, le); is = e })))).slots j)

  pub copied_back : (b : ℕ) → HasBlock c (with_top t copy) b → HasBlock s t b ⊎ (b ≡ copy)
  copied_back b has = by has.down has.within has.is
    where
      by : (n : ℕ) → n ≤ t.depth → block_at c (with_top t copy) n has.index ≡ Local b → HasBlock s t b ⊎ (b ≡ copy)
      by zero le e = inr (sym (local_eq e))
      by (suc n) le e = inl (record { down = suc n; index = has.index; within = le; is = sym (copied_block n has.index le) ∙ e })

  pub copied_on : (b : ℕ) → HasBlock s t b → (s.label b).epoch ≡ s.high → HasBlock c (with_top t copy) b
  copied_on b has current = by has.down has.within has.is
    where
      by : (n : ℕ) → n ≤ t.depth → block_at s t n has.index ≡ Local b → HasBlock c (with_top t copy) b
      by zero le e =
          let same : at ≡ b = local_eq (sym x.is ∙ e) in
          let older : (s.label b).epoch < s.high = subst (λ y. (s.label y).epoch < s.high) same x.older in
          absurd (omega (arith, older, current))
      by (suc n) le e = record { down = suc n; index = has.index; within = le; is = copied_block n has.index le ∙ e }

pub copied_top : (c : State) (t : Tree) (copy : ℕ) → HasBlock c (with_top t copy) copy
copied_top c t copy = record { down = 0; index = 0; within = omega arith; is = refl_local }
  where
    refl_local : Local copy ≡ Local copy
    refl_local = cc

module _ {s c m : State} {t : Tree} {at copy : ℕ} {top : Pointer} (x : Copied s c t at copy) (f : Follows t (λ b. t.top ≡ Local b) copy s c m) (new : IsNewTop c m top) where
  -- a leaf stands where it did, or is the copy
  pub leaf_copied : (levels : ℕ) → s.tells → (k : ℕ) → block_at m (grown t levels top) (t.depth + levels) k ≡ block_at c (with_top t copy) t.depth k
      → (block_at m (grown t levels top) (t.depth + levels) k ≡ block_at s t t.depth k) ⊎ IsCopied s m t top (block_at s t t.depth k) (block_at m (grown t levels top) (t.depth + levels) k)
  leaf_copied levels told k e = ⊎_elim
      (λ none. inr (record {
        at = at;
        copy = copy;
        only = none;
        was = ap (λ d. block_at s t d k) none ∙ x.is;
        is = e ∙ ap (λ d. block_at c (with_top t copy) d k) none;
        other = λ h. new.made.0 (subst (λ y. (c.label y).state ≡ Live) (local_eq (sym h ∙ new.is)) x.made.1);
        older = x.older;
        long = x.long;
        made = made_first f copy x.made;
        content = same_joins (f.second.same copy (λ n. n.0 x.made.1)) x.content;
      }))
      (λ some.
      let level : suc (t.depth - 1) ≡ t.depth = omega (arith, some) in
      inl (e ∙ subst (λ d. block_at c (with_top t copy) d k ≡ block_at s t d k) level (copied_block x told (t.depth - 1) k (omega (arith, level)))))
      (cases_eq t.depth 0)

  pub ways_copied : (kept : List Kept) (levels : ℕ) → ((j b : ℕ) → WayReady s t kept t.depth j → WayReady c (with_top t copy) kept t.depth j × (OnWay c (with_top t copy) t.depth j b → OnWay s t t.depth j b ⊎ Made s c b)) → KeepsWays c m (with_top t copy) kept levels top → KeepsWays s m t kept levels top
  ways_copied kept levels before last = record {
    ready = λ j few way. last.ready j few (λ lt. (before j 0 (way lt)).0);
    ways = λ j b few way on. ⊎_elim
        (λ old. ⊎_elim (λ was. inl (old.0, was)) (λ made. inr (made_first f b made)) ((before j b (way old.0)).1 old.1))
        (λ made. inr (made_second f b made))
        (last.ways j b few (λ lt. (before j b (way lt)).0) on);
  }

  pub new_copied : IsNewTop s m top
  new_copied = record { at = new.at; is = new.is; made = made_second f new.at new.made; is_apart = new.is_apart }

module _ {s c m : State} {t : Tree} {at copy : ℕ} (x : Copied s c t at copy) (f : Follows t (λ b. t.top ≡ Local b) copy s c m) where
  of_copy : (y : ℕ) → c.instead copy y → InSteadOf s t y
  of_copy y h = ⊎_elim
      (λ old. absurd (old.0 x.made))
      (λ new. ⊎_elim
      (λ top. (y, top, inl (same y, inr (subst (λ z. (s.label z).epoch < s.high) (local_eq (sym x.is ∙ top)) x.older))))
      (λ was. (was.0, was.1, inr was.2))
      new.1)
      (x.adds.instead copy y h)
    where
      same : (z : ℕ) → z ≡ z
      same z = cc

  -- what a new block comes in the place of
  pub instead_copied : (b y : ℕ) → Made s m b → m.instead b y → InSteadOf s t y
  instead_copied b y made h = ⊎_elim
      (λ old.
      let here = x.given b old in
      ⊎_elim
      (λ was. of_copy y (subst (λ z. c.instead z y) here was.1))
      (λ new. absurd (new.0.0 old.1))
      (f.second.instead b y h))
      (λ new.
      let r = f.instead b y new h in
      let here : r.0 ≡ copy = local_eq (sym r.1) in
      ⊎_elim
      (λ own. absurd (own.1 (subst (λ z. c.apart z) (sym here) f.is_apart)))
      (λ was. of_copy y (subst (λ z. c.instead z y) here was))
      r.2)
      (made_either f b made)

-- ---- the tree with its levels and another size

pub over_lifted : (m : State) (g : Tree) (z limit : ℕ) (kept : List Kept) → 0 < z → z ≤ limit → limit ≤ 2 ^ 47 → g.depth ≡ depth_for z → Bears m g kept → Over m (sized g z) kept limit
over_lifted m g z limit kept some within low least b = record {
  hangs = record {
    few = b.hangs.few;
    room = subst (λ d. z ≤ 8192 * 409 ^ d) (sym least) (room_for z (omega (arith, within, low)));
    low = b.hangs.low;
    is_one = b.hangs.is_one;
    told = b.hangs.told;
    rooted = b.hangs.rooted;
  };
  least = least;
  within = within;
  low = low;
  empty = λ (none : z ≡ 0). absurd (omega (arith, none, some));
  holds = b.holds;
  free = b.free;
  told = λ told at has. b.told told at (has_back m g z at has);
  unheld = λ told other i score e. b.unheld told other i score (sym (sized_block m g z g.depth i) ∙ e);
  held = b.held;
}

-- ---- the way to the new leaf

nil_some : (p : Pointer) (b : ℕ) → address_of Nil ≡ address_of p → p ≡ Local b → ⊥
nil_some p b e f = let g : address_of Nil ≡ address_of (Local b) = e ∙ ap (λ (q : Pointer). address_of q) f in cc

module _ (m : State) (g : Tree) (z : ℕ) (kept : List Kept) (clear : EndsClear m g kept) (some : 0 < g.size) (top : ℕ) (is : g.top ≡ Local top) where
  none_there : (n a j b : ℕ) → IsWayIndex g.depth (last_leaf g.size) n a → a < j → j < 409 ^ n → block_at m (sized g z) n j ≡ Local b → ⊥
  none_there n a j b on lt few e = nil_some (block_at m (sized g z) n j) b
      (ap (λ (p : Pointer). address_of p) (sym (sized_block (seen m kept) g z n j ∙ clear.behind some n a j on lt few)) ∙ seen_address m kept (sized g z) n j) e

  -- it has one block, the top
  pub way_top : (n a j b : ℕ) → IsWayIndex g.depth (last_leaf g.size) (suc n) a → a < 409 ^ n → 409 ^ n ≤ j → j < 409 ^ suc n → OnWay m (sized g z) (suc n) j b → b ≡ top
  way_top zero a j b on lt le few way = ⊎_elim
      (λ up. local_eq (sym up ∙ is))
      (λ here. absurd (none_there 1 a j b on (omega (arith, lt, le)) few here))
      way
  way_top (suc n) a j b on lt le few way =
      let more : 409 ^ suc n ≡ 409 * 409 ^ n = pow-succ' 409 n in
      let most : 409 ^ suc (suc n) ≡ 409 * 409 ^ suc n = pow-succ' 409 (suc n) in
      ⊎_elim
      (λ up. way_top n (a / 409) (j / 409) b (index_above g.depth (last_leaf g.size) (suc n) a on) (omega (arith, lt, more)) (omega (arith, le, more)) (omega (arith, few, most)) up)
      (λ here. absurd (none_there (suc (suc n)) a j b on (omega (arith, lt, le)) few here))
      way
