-- The ways to leaves of a source above whose top levels are put, over any device.
use Rattle.std.proofs.Common.{◌≡◌, ◌⊎◌, ◌+◌, ◌-◌, ◌*◌, ◌/◌, ◌^◌, ◌<◌, ◌≤◌, ℕ, zero, suc, List, Some, inl, inr, ⊎_elim, sym, ◌∙◌, ap, subst, arith}
use Rattle.std.proofs.lemmas.Bool.{cases_lt}
use Rattle.std.proofs.Math.Nat.{pow-succ'}
use Rattle.fo_image.specs.declared.types.Label.{Label}
use Rattle.fo_image.specs.declared.types.Pointer.{Pointer}
use Rattle.fo_image.specs.declared.types.Pointer.TheVariants.{Nil, Local, Score as Held}
use Rattle.fo_ports.specs.State.{State, KeepsAll}
use Rattle.fo_ports.specs.Sources.{Made}
use Rattle.fo_tree_read.specs.declared.tree.Tree.{Tree}
use Rattle.fo_tree_read.specs.Tree.{block_at, address_of}
use Rattle.fo_tree_look.specs.declared.ways.Kept.{Kept}
use Rattle.fo_tree_look.specs.Source.{WayReady}
use Rattle.fo_tree_look.proofs.Held.{seen_address}
use Rattle.fo_tree_down.specs.Way.{OnWay}
use Rattle.fo_tree_down.proofs.Next.{local_seen}
use Rattle.fo_tree_raise.specs.Raise.{Raises, raised}
use Rattle.fo_tree_raise.specs.Levels.{KeepsWays, grown}
use Rattle.fo_tree_raise.proofs.Levels.{level_up, level_none, way_same, way_raised, way_none}
use Rattle.fo_tree_raise.proofs.Climbing.{grown_none, grown_more}

address_local : (b : ℕ) (p : Pointer) → address_of p ≡ Some b → p ≡ Local b
address_local b Nil e = cc
address_local b (Local a) e = cc
address_local b (Held score) e = cc

local_eq : {a b : ℕ} → Local a ≡ Local b → a ≡ b
local_eq e = cc

nil_local : (b : ℕ) → Nil ≡ Local b → ⊥
nil_local b e = cc

module _ {t : Tree} {top : ℕ} {s u : State} (all : KeepsAll s u) (x : Raises t top s u) (kept : List Kept) where
  was_there : (n k b : ℕ) → WayReady s t kept n k → block_at u t n k ≡ Local b → block_at s t n k ≡ Local b
  was_there n k b way e = address_local b (block_at s t n k) (sym (seen_address s kept t n k) ∙ ap (λ (p : Pointer). address_of p) (sym (way_same all x kept n k way) ∙ local_seen u kept t n k b e))

  -- a block of a way is one that was, on a way that was prepared, or the new top
  ways_raised : (n k b : ℕ) → n ≤ t.depth → k < 409 ^ suc n → (k < 409 ^ n → WayReady s t kept n k) → OnWay u (raised t top) (suc n) k b → ((k < 409 ^ n) × OnWay s t n k b) ⊎ (b ≡ top)
  ways_raised zero k b le few way on = ⊎_elim
      (λ e. inr (sym (local_eq e)))
      (λ e. ⊎_elim
      (λ inside. inl (inside, was_there zero k b (way inside) (sym (level_up u t top x.leads x.bare zero k le inside) ∙ e)))
      (λ beyond. absurd (nil_local b (sym (level_none u t top x.leads x.bare zero k beyond few) ∙ e)))
      (cases_lt k (409 ^ zero)))
      on
  ways_raised (suc n) k b le few way on =
      let more : 409 ^ suc n ≡ 409 * 409 ^ n = pow-succ' 409 n in
      let most : 409 ^ suc (suc n) ≡ 409 * 409 ^ suc n = pow-succ' 409 (suc n) in
      ⊎_elim
      (λ up. ⊎_elim
      (λ old. let lt = old.0 in inl (omega (arith, lt, more), inl old.1))
      (λ new. inr new)
      (ways_raised n (k / 409) b (omega (arith, le)) (omega (arith, few, most)) (λ lt. (way (omega (arith, lt, more))).0) up))
      (λ e. ⊎_elim
      (λ inside. inl (inside, inr (was_there (suc n) k b (way inside) (sym (level_up u t top x.leads x.bare (suc n) k le inside) ∙ e))))
      (λ beyond. absurd (nil_local b (sym (level_none u t top x.leads x.bare (suc n) k beyond few) ∙ e)))
      (cases_lt k (409 ^ suc n)))
      on

-- no level was put
pub keeps_none : (s : State) (t : Tree) (kept : List Kept) (levels : ℕ) → levels ≡ 0 → KeepsWays s s t kept levels t.top
keeps_none s t kept levels none = record {
  ready = subst (λ (x : Tree). (j : ℕ) → j < 409 ^ x.depth → (j < 409 ^ t.depth → WayReady s t kept t.depth j) → WayReady s x kept x.depth j) (grown_none t levels none) (λ j few way. way few);
  ways = subst (λ (x : Tree). (j b : ℕ) → j < 409 ^ x.depth → (j < 409 ^ t.depth → WayReady s t kept t.depth j) → OnWay s x x.depth j b → ((j < 409 ^ t.depth) × OnWay s t t.depth j b) ⊎ Made s s b) (grown_none t levels none) (λ j b few way on. inl (few, on));
}

-- Levels were put, and then one more.
pub record OneMore (s m u : State) (t : Tree) (kept : List Kept) (levels top : ℕ) (p : Pointer) : Type 0 where
  pub some : 0 < levels
  pub first : KeepsWays s m t kept (levels - 1) p
  pub adds : (b : ℕ) → (Made s m b → ⊥) → m.label b ≡ s.label b
  pub step : Raises (grown t (levels - 1) p) top m u
  pub more : KeepsAll m u

module _ {s m u : State} {t : Tree} {kept : List Kept} {levels top : ℕ} {p : Pointer} (x : OneMore s m u t kept levels top p) where
  abbrev lower : Tree
  lower = grown t (levels - 1) p

  level : suc (t.depth + (levels - 1)) ≡ t.depth + (levels - 1) + 1
  level = omega arith

  made_on : (b : ℕ) → Made s m b → Made s u b
  made_on b made = (made.0, ap (λ (l : Label). l.state) (x.step.labels b (λ e. x.step.made.0 (ap (λ y. (m.label y).state) (sym e) ∙ made.1))) ∙ made.1)

  made_top : Made s u top
  made_top = (λ live. x.step.made.0 (ap (λ (l : Label). l.state) (x.adds top (λ made. x.step.made.0 made.1)) ∙ live), x.step.made.1)

  ready_more : (j : ℕ) → j < 409 ^ suc (t.depth + (levels - 1)) → (j < 409 ^ t.depth → WayReady s t kept t.depth j) → WayReady u (raised (grown t (levels - 1) p) top) kept (suc (t.depth + (levels - 1))) j
  ready_more j few way = ⊎_elim
      (λ lt. way_raised x.more x.step kept (t.depth + (levels - 1)) j (omega arith) lt (x.first.ready j lt way))
      (λ ge. way_none x.more x.step kept (t.depth + (levels - 1)) j ge few)
      (cases_lt j (409 ^ (t.depth + (levels - 1))))

  ways_more : (j b : ℕ) → j < 409 ^ suc (t.depth + (levels - 1)) → (j < 409 ^ t.depth → WayReady s t kept t.depth j) → OnWay u (raised (grown t (levels - 1) p) top) (suc (t.depth + (levels - 1))) j b → ((j < 409 ^ t.depth) × OnWay s t t.depth j b) ⊎ Made s u b
  ways_more j b few way on = ⊎_elim
      (λ old. ⊎_elim (λ was. inl was) (λ made. inr (made_on b made)) (x.first.ways j b old.0 way old.1))
      (λ own. inr (subst (λ y. Made s u y) (sym own) made_top))
      (ways_raised x.more x.step kept (t.depth + (levels - 1)) j b (omega arith) few (λ lt. x.first.ready j lt way) on)

  pub keeps_more : KeepsWays s u t kept levels (Local top)
  keeps_more = record {
    ready = subst (λ (y : Tree). (j : ℕ) → j < 409 ^ y.depth → (j < 409 ^ t.depth → WayReady s t kept t.depth j) → WayReady u y kept y.depth j) (grown_more t levels top p x.some)
        (subst (λ d. (j : ℕ) → j < 409 ^ d → (j < 409 ^ t.depth → WayReady s t kept t.depth j) → WayReady u (raised (grown t (levels - 1) p) top) kept d j) level ready_more);
    ways = subst (λ (y : Tree). (j b : ℕ) → j < 409 ^ y.depth → (j < 409 ^ t.depth → WayReady s t kept t.depth j) → OnWay u y y.depth j b → ((j < 409 ^ t.depth) × OnWay s t t.depth j b) ⊎ Made s u b) (grown_more t levels top p x.some)
        (subst (λ d. (j b : ℕ) → j < 409 ^ d → (j < 409 ^ t.depth → WayReady s t kept t.depth j) → OnWay u (raised (grown t (levels - 1) p) top) d j b → ((j < 409 ^ t.depth) × OnWay s t t.depth j b) ⊎ Made s u b) level ways_more);
  }
