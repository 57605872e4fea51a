-- No block stands behind the last leaf.
use Rattle.std.proofs.Common.{◌≡◌, ◌+◌, ◌*◌, ◌/◌, ◌%◌, ◌^◌, ◌<◌, ◌≤◌, ℕ, zero, suc, List, inl, inr, ⊎_elim, sym, ◌∙◌, ap, subst, arith}
use Rattle.std.proofs.lemmas.Bool.{cases_eq, cases_lt}
use Rattle.std.proofs.Math.Nat.{pow-succ'}
use Rattle.fo_image.specs.declared.types.Pointer.{Pointer}
use Rattle.fo_image.specs.declared.types.Pointer.TheVariants.{Nil}
use Rattle.fo_ports.specs.State.{State, KeepsAll}
use Rattle.fo_tree_read.specs.declared.tree.Tree.{Tree}
use Rattle.fo_tree_read.specs.Tree.{kind_down, below, block_at}
use Rattle.fo_tree_look.specs.declared.ways.Kept.{Kept}
use Rattle.fo_tree_look.specs.Source.{Ready, WayReady, seen}
use Rattle.fo_tree_look.proofs.Shown.{top_ready}
use Rattle.fo_tree_down.specs.Way.{IsWayIndex}
use Rattle.fo_tree_down.proofs.Beside.{index_last, index_within}
use Rattle.fo_tree_down.specs.Clear.{EndsClear, last_leaf}
use Rattle.fo_tree_raise.specs.Raise.{Raises, raised}
use Rattle.fo_tree_raise.proofs.Levels.{below_same, level_up, level_none, seen_held, known, way_same, way_raised}

-- ---- which blocks stand on the way to the last leaf

-- one level up
pub index_above : (n k m a : ℕ) → IsWayIndex n k (suc m) a → IsWayIndex n k m (a / 409)
index_above zero k m a is = absurd (let e : suc m ≡ 0 = is.0 in omega (arith, e))
index_above (suc n) k m a is = ⊎_elim
    (λ here.
    let level : m ≡ n = let e = here.0 in omega (arith, e) in
    inr (subst (λ x. IsWayIndex n (k / 409) x (a / 409)) (sym level) (subst (λ y. IsWayIndex n (k / 409) n y) (ap (λ y. y / 409) (sym here.1)) (index_last n (k / 409)))))
    (λ up. inr (index_above n (k / 409) m a up))
    is

-- with one level less above
pub index_less : (d k m a : ℕ) → IsWayIndex (suc d) k (suc m) a → IsWayIndex d k m a
index_less zero k m a is = ⊎_elim
    (λ here. (let e = here.0 in omega (arith, e), here.1))
    (λ up. absurd (let e : suc m ≡ 0 = up.0 in omega (arith, e)))
    is
index_less (suc d) k m a is = ⊎_elim
    (λ here. inl (let e = here.0 in omega (arith, e), here.1))
    (λ up. inr (index_less d (k / 409) m a up))
    is

pub way_part : (s : State) (t : Tree) (kept : List Kept) (n k m a : ℕ) → IsWayIndex n k m a → WayReady s t kept n k → WayReady s t kept m a
way_part s t kept zero k m a is way = subst (λ x. WayReady s t kept x a) (sym is.0) (subst (λ y. WayReady s t kept zero y) (sym is.1) way)
way_part s t kept (suc n) k m a is way = ⊎_elim
    (λ here. subst (λ x. WayReady s t kept x a) (sym here.0) (subst (λ y. WayReady s t kept (suc n) y) (sym here.1) way))
    (λ up. way_part s t kept n (k / 409) m a up way.0)
    is

-- ---- ways to leaves behind the last one

module _ (s : State) (t : Tree) (kept : List Kept) where
  pub nothing_there : t.top ≡ Nil → (n k : ℕ) → block_at (seen s kept) t n k ≡ Nil
  nothing_there none zero k = none
  nothing_there none (suc n) k = ap (λ (p : Pointer). below (seen s kept) (kind_down t n) p (k % 409)) (nothing_there none n (k / 409))

  nil_ready : (n : ℕ) (p : Pointer) → p ≡ Nil → Ready s t kept n p
  nil_ready n p e = subst (λ (q : Pointer). Ready s t kept n q) (sym e) tt

  pub way_nothing : t.top ≡ Nil → (n k : ℕ) → WayReady s t kept n k
  way_nothing none zero k = nil_ready zero t.top none
  way_nothing none (suc n) k = (way_nothing none n (k / 409), nil_ready (suc n) (block_at (seen s kept) t (suc n) k) (nothing_there none (suc n) k))

  way_behind : (clear : EndsClear s t kept) → 0 < t.size → (n a b : ℕ) → IsWayIndex t.depth (last_leaf t.size) n a → a ≤ b → b < 409 ^ n → WayReady s t kept n b
  way_behind clear some n a b is le few = ⊎_elim
      (λ e. subst (λ y. WayReady s t kept n y) e (way_part s t kept t.depth (last_leaf t.size) n a is (clear.way some)))
      (λ ne. past n a b is (omega (arith, le, ne)) few)
      (cases_eq a b)
    where
      past : (n a b : ℕ) → IsWayIndex t.depth (last_leaf t.size) n a → a < b → b < 409 ^ n → WayReady s t kept n b
      past zero a b is lt few = absurd (omega (arith, lt, few))
      past (suc n) a b is lt few =
          let more : 409 ^ suc n ≡ 409 * 409 ^ n = pow-succ' 409 n in
          let up = index_above t.depth (last_leaf t.size) n a is in
          let room : b / 409 < 409 ^ n = omega (arith, few, more) in (
            ⊎_elim
                (λ e. subst (λ y. WayReady s t kept n y) e (way_part s t kept t.depth (last_leaf t.size) n (a / 409) up (clear.way some)))
                (λ ne. past n (a / 409) (b / 409) up (omega (arith, lt, ne)) room)
                (cases_eq (a / 409) (b / 409)),
            nil_ready (suc n) (block_at (seen s kept) t (suc n) b) (clear.behind some (suc n) a b is lt few),
          )

  -- the way to each leaf behind the last one
  pub way_past : EndsClear s t kept → (i : ℕ) → t.size ≤ 8192 * (i + 1) → i < 409 ^ t.depth → WayReady s t kept t.depth i
  way_past clear i le few = ⊎_elim
      (λ (none : t.size ≡ 0). way_nothing (clear.empty none) t.depth i)
      (λ some. way_behind clear (omega (arith, some)) t.depth (last_leaf t.size) i (index_last t.depth (last_leaf t.size)) (omega (arith, le, some)) few)
      (cases_eq t.size 0)

-- ---- one level more

module _ {t : Tree} {top : ℕ} {s u : State} (all : KeepsAll s u) (x : Raises t top s u) (kept : List Kept) (clear : EndsClear s t kept) (some : 0 < t.size) where
  -- what was none is none
  none_on : (n a b : ℕ) → IsWayIndex t.depth (last_leaf t.size) n a → a < b → b < 409 ^ n → block_at (seen u kept) t n b ≡ Nil
  none_on zero a b is lt few = absurd (omega (arith, lt, few))
  none_on (suc n) a b is lt few =
      let more : 409 ^ suc n ≡ 409 * 409 ^ n = pow-succ' 409 n in
      let up = index_above t.depth (last_leaf t.size) n a is in
      let room : b / 409 < 409 ^ n = omega (arith, few, more) in
      ⊎_elim
      (λ e.
      let way : WayReady s t kept n (b / 409) = subst (λ y. WayReady s t kept n y) e (way_part s t kept t.depth (last_leaf t.size) n (a / 409) up (clear.way some)) in
      below_same (seen s kept) (seen u kept) (kind_down t n) (block_at (seen s kept) t n (b / 409)) (block_at (seen u kept) t n (b / 409)) (b % 409)
      (way_same all x kept n (b / 409) way) (seen_held all x kept) (known all x kept n (block_at (seen s kept) t n (b / 409)) (top_ready s t kept n (b / 409) way))
      ∙ clear.behind some (suc n) a b is lt few)
      (λ ne. ap (λ (p : Pointer). below (seen u kept) (kind_down t n) p (b % 409)) (none_on n (a / 409) (b / 409) up (omega (arith, lt, ne)) room))
      (cases_eq (a / 409) (b / 409))

  behind_up : (n a b : ℕ) → IsWayIndex (suc t.depth) (last_leaf t.size) n a → a < b → b < 409 ^ n → block_at (seen u kept) (raised t top) n b ≡ Nil
  behind_up zero a b is lt few = absurd (omega (arith, lt, few))
  behind_up (suc n) a b is lt few =
      let low = index_within (suc t.depth) (last_leaf t.size) (suc n) a is in
      let le : n ≤ t.depth = omega (arith, low) in
      ⊎_elim
      (λ inside. level_up (seen u kept) t top x.leads x.bare n b le inside ∙ none_on n a b (index_less t.depth (last_leaf t.size) n a is) lt inside)
      (λ beyond. level_none (seen u kept) t top x.leads x.bare n b beyond few)
      (cases_lt b (409 ^ n))

pub clear_raised : {t : Tree} {top : ℕ} {s u : State} → KeepsAll s u → Raises t top s u → (kept : List Kept) → 0 < t.size → t.size ≤ 8192 * 409 ^ t.depth → EndsClear s t kept → EndsClear u (raised t top) kept
clear_raised {t = t} {top = top} {s = s} {u = u} all x kept some room clear =
    let level : suc t.depth ≡ t.depth + 1 = omega arith in
    record {
      empty = λ (none : t.size ≡ 0). absurd (omega (arith, none, some));
      way = λ more. subst (λ d. WayReady u (raised t top) kept d (last_leaf t.size)) level (way_raised all x kept t.depth (last_leaf t.size) (omega arith) (omega (arith, some, room)) (clear.way some));
      behind = λ more n a b is lt few. behind_up all x kept clear some n a b (subst (λ d. IsWayIndex d (last_leaf t.size) n a) (sym level) is) lt few;
    }
