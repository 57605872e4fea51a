-- What is clear behind the end stays so.
use Rattle.std.proofs.Common.{◌≡◌, ◌-◌, ◌*◌, ◌/◌, ◌%◌, ◌^◌, ◌<◌, ◌≤◌, ℕ, zero, suc, Bool, true, false, List, ⊎_elim, refl, sym, ◌∙◌, ap, subst, arith}
use Rattle.std.proofs.lemmas.Bool.{cases_eq}
use Rattle.std.proofs.Math.Nat.{pow-succ'}
use Rattle.fo_image.specs.declared.types.Kind.TheVariants.{Dir}
use Rattle.fo_image.specs.declared.types.Label.{Label}
use Rattle.fo_image.specs.declared.types.Pointer.{Pointer}
use Rattle.fo_image.specs.declared.types.Pointer.TheVariants.{Nil, Local, Score as Held}
use Rattle.fo_image.specs.Format.{kind_code}
use Rattle.fo_crash.specs.declared.slot.Slot.{Slot}
use Rattle.fo_crash.specs.Images.{target}
use Rattle.fo_ports.specs.State.{State, KeepsAll, Looks}
use Rattle.fo_ports.specs.Sources.{IsReady, StaysReady}
use Rattle.fo_tree_read.specs.declared.tree.Tree.{Tree}
use Rattle.fo_tree_read.specs.Tree.{kind_at, kind_down, score_in, below, block_at}
use Rattle.fo_tree_look.specs.declared.ways.Kept.{Kept}
use Rattle.fo_tree_look.specs.Source.{IsPrepared, Extends, find_kept, or_held, Ready, WayReady, seen}
use Rattle.fo_tree_look.proofs.Shown.{top_ready, block_same, way_on}
use Rattle.fo_tree_down.specs.Clear.{EndsClear, last_leaf}
use Rattle.fo_tree_down.specs.Way.{IsWayIndex}
use Rattle.fo_tree_down.proofs.Beside.{index_within}
use Rattle.fo_tree_trim.proofs.Along.{way_part}
use Rattle.fo_tree_trim.proofs.Past.{index_above}

-- What was prepared stays so, and blocks below it lead where they did.
pub record Holds (a b : State) (t : Tree) (kept more : List Kept) : Type 0 where
  pub ready : (n k : ℕ) → n ≤ t.depth → WayReady a t kept n k → WayReady b t more n k
  pub step : (n k : ℕ) → suc n ≤ t.depth → WayReady a t kept n (k / 409) → block_at (seen b more) t (suc n) k ≡ block_at (seen a kept) t (suc n) k

module _ {a b : State} {t : Tree} {kept more : List Kept} (x : Holds a b t kept more) (clear : EndsClear a t kept) (some : 0 < t.size) where
  none_on : (n i j : ℕ) → IsWayIndex t.depth (last_leaf t.size) n i → i < j → j < 409 ^ n → block_at (seen b more) t n j ≡ Nil
  none_on zero i j is lt few = absurd (omega (arith, lt, few))
  none_on (suc n) i j is lt few =
      let wide : 409 ^ suc n ≡ 409 * 409 ^ n = pow-succ' 409 n in
      let le = index_within t.depth (last_leaf t.size) (suc n) i is in
      let up = index_above t.depth (last_leaf t.size) n i is in
      ⊎_elim
      (λ e. x.step n j (omega (arith, le)) (subst (λ y. WayReady a t kept n y) e (way_part a t kept t.depth (last_leaf t.size) n (i / 409) up (clear.way some))) ∙ clear.behind some (suc n) i j is lt few)
      (λ ne. ap (λ (p : Pointer). below (seen b more) (kind_down t n) p (j % 409)) (none_on n (i / 409) (j / 409) up (omega (arith, lt, ne)) (omega (arith, few, wide))))
      (cases_eq (i / 409) (j / 409))

pub clear_on : {a b : State} {t : Tree} {kept more : List Kept} → Holds a b t kept more → EndsClear a t kept → EndsClear b t more
clear_on {a = a} {b = b} {t = t} {kept = kept} {more = more} x clear = record {
  empty = clear.empty;
  way = λ some. x.ready t.depth (last_leaf t.size) (omega arith) (clear.way some);
  behind = λ some n i j is lt few. none_on x clear some n i j is lt few;
}

-- ---- calls that only look

pub holds_looks : (a b : State) (t : Tree) (kept more : List Kept) → KeepsAll a b → Looks a b → Extends b kept more → Holds a b t kept more
holds_looks a b t kept more all looks grown = record {
  ready = λ n k le way. way_on a b t kept more all looks grown n k way;
  step = λ n k le way. block_same a b t kept more all looks grown n k way;
}

-- ---- calls that leave what was prepared

module _ (a b : State) (t : Tree) (kept : List Kept) (all : KeepsAll a b) (stays : (at : ℕ) → IsReady t.tag a at → StaysReady a b at) where
  inner_apart : (dir : Bool) (level : ℕ) → 0 < level → kind_at dir level ≡ Dir 0 → ⊥
  inner_apart true (suc level) lt e = cc
  inner_apart true zero lt e = absurd (omega (arith, lt))
  inner_apart false level lt e = cc

  stays_at : (at n : ℕ) → IsPrepared a (kind_down t n) t.tag at → StaysReady a b at
  stays_at at n was = stays at (record { is_pinned = was.is_pinned; live = was.live; tagged = was.tagged })

  block_ready : (at n : ℕ) → IsPrepared a (kind_down t n) t.tag at → IsPrepared b (kind_down t n) t.tag at
  block_ready at n was =
      let still = stays_at at n was in
      let epoch : (b.label at).epoch ≡ (a.label at).epoch = ap (λ (l : Label). l.epoch) still.same_label in
      let high = all.same_high in
      let up = was.up_to in
      record {
        is_pinned = still.is_pinned;
        live = ap (λ (l : Label). l.state) still.same_label ∙ was.live;
        has_kind = ap (λ (l : Label). l.kind) still.same_label ∙ was.has_kind;
        tagged = ap (λ (l : Label). l.tag) still.same_label ∙ was.tagged;
        up_to = omega (arith, epoch, high, up);
        long = still.same_length ∙ was.long;
      }

  pointer_ready : (n : ℕ) (p : Pointer) → Ready a t kept n p → Ready b t kept n p
  pointer_ready n Nil was = was
  pointer_ready n (Local at) was = block_ready at n was
  pointer_ready n (Held score) was = was

  below_same : (n : ℕ) (p : Pointer) (i : ℕ) → suc n ≤ t.depth → Ready a t kept n p → below (seen b kept) (kind_down t n) p i ≡ below (seen a kept) (kind_down t n) p i
  below_same n Nil i le was = refl
  below_same n (Local at) i le was = ap (λ (q : Slot). target q) (⊎_elim
      (λ leaf. absurd (inner_apart t.dir (t.depth - n) (omega (arith, le)) (sym was.has_kind ∙ leaf)))
      (λ same. same i)
      (stays_at at n was).same_slots)
  below_same n (Held score) i le was = ap (λ h. score_in (or_held (find_kept kept score (kind_code (kind_down t n))) h) i) (all.same_held score (kind_code (kind_down t n)))

  way_same : (n k : ℕ) → n ≤ t.depth → WayReady a t kept n k → block_at (seen b kept) t n k ≡ block_at (seen a kept) t n k
  way_same zero k le way = refl
  way_same (suc n) k le way =
      ap (λ (p : Pointer). below (seen b kept) (kind_down t n) p (k % 409)) (way_same n (k / 409) (omega (arith, le)) way.0)
      ∙ below_same n (block_at (seen a kept) t n (k / 409)) (k % 409) le (top_ready a t kept n (k / 409) way.0)

  step_same : (n k : ℕ) → suc n ≤ t.depth → WayReady a t kept n (k / 409) → block_at (seen b kept) t (suc n) k ≡ block_at (seen a kept) t (suc n) k
  step_same n k le way =
      ap (λ (p : Pointer). below (seen b kept) (kind_down t n) p (k % 409)) (way_same n (k / 409) (omega (arith, le)) way)
      ∙ below_same n (block_at (seen a kept) t n (k / 409)) (k % 409) le (top_ready a t kept n (k / 409) way)

  ready_same : (n k : ℕ) → n ≤ t.depth → WayReady a t kept n k → WayReady b t kept n k
  ready_same zero k le way = pointer_ready zero t.top way
  ready_same (suc n) k le way = (
    ready_same n (k / 409) (omega (arith, le)) way.0,
    subst (λ (p : Pointer). Ready b t kept (suc n) p) (sym (step_same n k le way.0)) (pointer_ready (suc n) (block_at (seen a kept) t (suc n) k) way.1),
  )

  pub holds_stays : Holds a b t kept kept
  holds_stays = record { ready = ready_same; step = step_same }
