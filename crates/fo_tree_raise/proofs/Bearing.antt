-- The source stands over the blocks with one level more.
use Rattle.std.proofs.Common.{◌≡◌, ◌≢◌, ◌+◌, ◌*◌, ◌^◌, ◌<◌, ◌≤◌, ℕ, suc, List, inl, ⊎_elim, sym, ◌∙◌, ap, subst, arith}
use Rattle.std.proofs.lemmas.Bool.{cases_eq, cases_lt}
use Rattle.std.proofs.Math.Nat.{pow-succ'}
use Rattle.fo_image.specs.declared.types.Label.{Label}
use Rattle.fo_image.specs.declared.types.Score.{Score}
use Rattle.fo_image.specs.declared.types.Pointer.TheVariants.{Nil, Local, Score as Held}
use Rattle.fo_image.specs.Format.{PointerHolds}
use Rattle.fo_crash.specs.Places.{place, IsPlaced}
use Rattle.fo_ports.specs.State.{State, KeepsAll}
use Rattle.fo_ports.specs.Sources.{depth_for}
use Rattle.fo_tree_read.proofs.of_looks.Looks.{rooted_of_apart}
use Rattle.fo_tree_read.specs.declared.tree.Tree.{Tree}
use Rattle.fo_tree_read.specs.Tree.{kind_at, block_at}
use Rattle.fo_tree_look.specs.declared.ways.Kept.{Kept}
use Rattle.fo_tree_look.specs.Source.{HasBlock, IsTold, NoneHeld, Over}
use Rattle.fo_tree_look.proofs.Shown.{held_on}
use Rattle.fo_tree_raise.specs.Raise.{Raises, CanRaise, raised, Bears}
use Rattle.fo_tree_raise.proofs.Levels.{index_of, index_few, index_same, block_raised, block_none, owned_back}

local_eq : {a b : ℕ} → Local a ≡ Local b → a ≡ b
local_eq e = cc

-- a source that stands over the blocks
pub bears : {s : State} {t : Tree} {kept : List Kept} {limit : ℕ} → Over s t kept limit → Bears s t kept
bears over = record { hangs = over.hangs; empty = over.empty; holds = over.holds; free = over.free; told = over.told; unheld = over.unheld; held = over.held }

-- and back, where it has the least levels
pub over_of : {s : State} {t : Tree} {kept : List Kept} {limit : ℕ} → t.depth ≡ depth_for t.size → t.size ≤ limit → limit ≤ 2 ^ 47 → Bears s t kept → Over s t kept limit
over_of least within low b = record {
  hangs = b.hangs;
  least = least;
  within = within;
  low = low;
  empty = b.empty;
  holds = b.holds;
  free = b.free;
  told = b.told;
  unheld = b.unheld;
  held = b.held;
}

module _ {t : Tree} {top : ℕ} {s u : State} (all : KeepsAll s u) (x : Raises t top s u) (can : CanRaise s t) (kept : List Kept) (b : Bears s t kept) where
  borne_top : u.tells → IsTold u (Local top) top
  borne_top now =
      let own = x.own in
      let told = own.told now in
      let current = own.current in
      record {
        live = own.live;
        up_to = omega (arith, current);
        uncovered = told.uncovered;
        in_tree = λ older. absurd (omega (arith, older, current));
        hung = told.hung;
        alone = λ y h. absurd (x.alone (all.still_tells.0 now) y h);
      }

  -- what the new top comes in the place of was current
  over_current : s.tells → (at : ℕ) → u.instead top at → IsTold s t.top at → (s.label at).epoch ≡ s.high
  over_current told at h is =
      let r = x.raises at h in
      ⊎_elim
      (λ here. subst (λ y. (s.label y).epoch ≡ s.high) here.0 (can.under r.0 r.1).current)
      (λ was. (is.alone r.0 was).1)
      r.2

  borne_on : s.tells → (at : ℕ) → at ≢ top → IsTold s t.top at → IsTold u (Local top) at
  borne_on told at ne is =
      let same = x.labels at ne in
      let epoch : (u.label at).epoch ≡ (s.label at).epoch = ap (λ (l : Label). l.epoch) same in
      let high = all.same_high in
      let up = is.up_to in
      record {
        live = ap (λ (l : Label). l.state) same ∙ is.live;
        up_to = omega (arith, epoch, high, up);
        uncovered = x.only at is.uncovered;
        in_tree = λ older. (x.reached told at).0 (is.in_tree (omega (arith, epoch, high, older)));
        hung = x.hung told at is.hung;
        alone = λ y h. ⊎_elim
            (λ e. (ap (λ z. Local z) (sym e), epoch ∙ over_current told at (subst (λ z. u.instead z at) e h) is ∙ sym high))
            (λ away. absurd ((x.put y (is.alone y (x.instead y at away h)).0).1 at h))
            (cases_eq y top);
      }

  module _ (told : s.tells) (placed : IsPlaced s.stands s.now) where
    pub borne_end : (at : ℕ) → HasBlock u (raised t top) at → IsTold u (Local top) at
    borne_end at has = ⊎_elim
        (λ old.
        let is = b.told told at old in
        borne_on told at (λ e. x.made.0 (ap (λ y. (s.label y).state) (sym e) ∙ is.live)) is)
        (λ e. subst (λ y. IsTold u (Local top) y) (sym e) (borne_top (all.still_tells.1 told)))
        (owned_back all x told placed b.hangs at has)

    pub unheld_end : NoneHeld s t → NoneHeld u (raised t top)
    unheld_end none i score e =
        let level : t.depth + 1 ≡ suc t.depth = omega arith in
        let j = index_of (suc t.depth) i in
        let here : block_at u (raised t top) (suc t.depth) j ≡ Held score = index_same u (raised t top) (suc t.depth) i ∙ subst (λ d. block_at u (raised t top) d i ≡ Held score) level e in
        ⊎_elim
        (λ lt. none j score (sym (block_raised all x told placed b.hangs t.depth j (omega arith) lt) ∙ here))
        (λ ge. nil_held score (sym (block_none all x told placed b.hangs t.depth j ge (index_few (suc t.depth) i)) ∙ here))
        (cases_lt j (409 ^ t.depth))
      where
        nil_held : (score : Score) → Nil ≡ Held score → ⊥
        nil_held score e = cc

  pub bears_raised : PointerHolds (Local top) → t.depth < 4 → 0 < t.size → (s.tells → IsPlaced s.stands s.now) → Bears u (raised t top) kept
  bears_raised holds few some placed =
      let level : t.depth + 1 ≡ suc t.depth = omega arith in
      let more : 409 ^ suc t.depth ≡ 409 * 409 ^ t.depth = pow-succ' 409 t.depth in
      let room : t.size ≤ 8192 * 409 ^ suc t.depth = let le = b.hangs.room in omega (arith, le, more) in
      record {
        hangs = record {
          few = omega (arith, few);
          room = subst (λ d. t.size ≤ 8192 * 409 ^ d) (sym level) room;
          low = b.hangs.low;
          is_one = λ at e. subst (λ y. u.is_block y) (local_eq e) x.is.0;
          told = λ now at e.
              let told = x.own.told now in
              subst (λ y. u.stands y (place (kind_at t.dir (t.depth + 1)) t.tag 0 (t.rank + (t.depth + 1))) × (u.covered y → ⊥)) (local_eq e)
              (subst (λ d. u.stands top (place (kind_at t.dir d) t.tag 0 (t.rank + d))) (sym level) told.stands, told.uncovered);
          rooted = λ now at e. rooted_of_apart u at (subst u.apart (local_eq e) x.is.2);
        };
        empty = λ (none : t.size ≡ 0). absurd (omega (arith, none, some));
        holds = holds;
        free = λ now at e. inl (subst u.apart (local_eq e) x.is.2);
        told = λ now at has. let told = all.still_tells.0 now in borne_end told (placed told) at has;
        unheld = λ now other. let told = all.still_tells.0 now in unheld_end told (placed told) (b.unheld told other);
        held = held_on all kept b.held;
      }
