-- Leaves and their bytes, one after another.
use Rattle.std.proofs.Common.{◌≡◌, ◌⊎◌, ◌+◌, ◌-◌, ◌*◌, ◌/◌, ◌%◌, ◌^◌, ◌<◌, ◌≤◌, ℕ, Bool, true, false, nat_lt, Some, None, cond, inl, inr, ⊎_elim, sym, ap, ◌∙◌, subst, arith}
use Rattle.std.proofs.lemmas.Bool.{lt-ltb, cases_eq}
use Rattle.fo_looks.specs.of_image.declared.types.Pointer.{Pointer}
use Rattle.fo_looks.specs.of_image.declared.types.Pointer.TheVariants.{Nil, Local}
use Rattle.fo_looks.specs.of_crash.Places.{IsPlaced}
use Rattle.fo_looks.specs.of_ports.State.{State, KeepsAll, Looks}
use Rattle.fo_looks.specs.of_ports.Sources.{byte_at}
use Rattle.fo_tree_read.specs.declared.tree.Tree.{Tree}
use Rattle.fo_tree_read.specs.Tree.{kind_at, block_at, leaf_at, address, address_of, Agrees, held_of, byte, Hangs, StandsAs, Got, Way, IsNear, above, HasPins, IsFound}
use Rattle.fo_tree_read.specs.Reading.{LeafWay, passed, IsNext, HasLeafPins, IsLeafFound, IsLocal}
use Rattle.fo_tree_read.proofs.Exits.{address_local, agrees_on, agrees_got, got_agrees, local_agrees}
use Rattle.fo_tree_read.proofs.Walk.{tree_stands, way_same, told_same, way_looks, got_looks}

-- a leaf stands at a place of the kind and rank of leaves
pub leaf_stands : (s : State) (t : Tree) → IsPlaced s.stands s.now → Hangs s t → s.tells → (k at : ℕ) → block_at s t t.depth k ≡ Local at → StandsAs s (kind_at t.dir 0) t.rank at
leaf_stands s t placed hangs told k at e =
    let none : t.depth - t.depth ≡ 0 = omega arith in
    let rank : t.rank + (t.depth - t.depth) ≡ t.rank = omega arith in
    subst (λ r. StandsAs s (kind_at t.dir 0) r at) rank (subst (λ l. StandsAs s (kind_at t.dir l) (t.rank + (t.depth - t.depth)) at) none (tree_stands s t placed hangs told t.depth k at (omega arith) e))

pub byte_here : (s : State) (t : Tree) (leaf : Pointer) (place x : ℕ) → place < t.size → t.size ≤ 8192 * 409 ^ t.depth → place % 8192 + x < 8192 → leaf ≡ block_at s t t.depth (place / 8192) → byte_at s.now (address_of leaf) (held_of s (kind_at t.dir 0) leaf) (place % 8192 + x) ≡ byte s t (place + x)
byte_here s t leaf place x inside room part is =
    let here : (place + x) / 8192 ≡ place / 8192 = omega (arith, part) in
    let at : (place + x) % 8192 ≡ place % 8192 + x = omega (arith, part) in
    let few : place / 8192 < 409 ^ t.depth = omega (arith, inside, room) in
    let found : leaf_at s t (place / 8192) ≡ block_at s t t.depth (place / 8192) = ap (λ b. cond b (block_at s t t.depth (place / 8192)) Nil) (lt-ltb (place / 8192) (409 ^ t.depth) few) in
    let byte_of : Pointer → ℕ → ℕ = λ p k. byte_at s.now (address_of p) (held_of s (kind_at t.dir 0) p) k in
    sym (ap (λ k. byte_of (leaf_at s t k) ((place + x) % 8192)) here ∙ ap (λ k. byte_of (leaf_at s t (place / 8192)) k) at ∙ ap (λ (p : Pointer). byte_of p (place % 8192 + x)) (found ∙ sym is))

-- a leaf that has an address
pub address_leaf : (s : State) (t : Tree) (i b : ℕ) → address s t i ≡ Some b → block_at s t t.depth i ≡ Local b
address_leaf s t i b e = by (nat_lt i (409 ^ t.depth)) e
  where
    none_some : None ≡ Some b → ⊥
    none_some e = cc

    by : (few : Bool) → address_of (cond few (block_at s t t.depth i) Nil) ≡ Some b → block_at s t t.depth i ≡ Local b
    by true e = address_local b (block_at s t t.depth i) (sym e)
    by false e = absurd (none_some e)

pub next_near : {s : State} {t : Tree} {j i : ℕ} → IsNext s t j i → IsNear s t t.depth j i
next_near next = record { from = next.from; to = next.to; way = next.way.way }

pub leaf_has_pins : (s : State) (t : Tree) (i : ℕ) → HasLeafPins s t i → HasPins s t t.depth i
leaf_has_pins s t i pins = ⊎_elim
    (λ (le : t.depth + 1 ≤ s.pins_left). inl (omega (arith, le)))
    (λ h. let le : i + above t.depth i ≤ s.pins_left + (h.0 + above t.depth h.0) = h.2 in inr (h.0, next_near h.1, omega (arith, le, h.1.from)))
    pins

pub leaf_found : (s : State) (t : Tree) (i : ℕ) → IsLeafFound s t i → IsFound s t t.depth i
leaf_found s t i is = ⊎_elim (λ told. inl told) (λ pins. inr (leaf_has_pins s t i pins)) is

-- The walk to leaf i, and then the leaf.
pub record WalksToLeaf (old mid : State) (t : Tree) (i : ℕ) (leaf : Pointer) : Type 0 where
  pub found : IsFound old t t.depth i → Agrees old.tells leaf (block_at mid t t.depth i)
  pub way : HasPins old t t.depth i → Way mid t t.depth i

module _ (old mid new : State) (t : Tree) (i : ℕ) (leaf : Pointer)
    (all : KeepsAll old mid) (looks : Looks old mid) (more : KeepsAll mid new) (more_looks : Looks mid new)
    (walk : WalksToLeaf old mid t i leaf)
    (pins : old.pins_left ≤ mid.pins_left + t.depth)
    (near : (j : ℕ) → IsNear old t t.depth j i → old.pins_left + above t.depth j ≤ mid.pins_left + above t.depth i) where
  got_before : (j : ℕ) → IsNext old t j i → j ≡ i → Got mid (kind_at t.dir 0) leaf
  got_before j next same =
      let here : Got mid (kind_at t.dir 0) (block_at mid t t.depth j) = subst (λ (p : Pointer). Got mid (kind_at t.dir 0) p) (sym (way_same all looks t t.depth j next.way.way)) (got_looks looks (kind_at t.dir 0) (block_at old t t.depth j) next.way.leaf) in
      let there : Got mid (kind_at t.dir 0) (block_at mid t t.depth i) = subst (λ k. Got mid (kind_at t.dir 0) (block_at mid t t.depth k)) same here in
      let has : HasPins old t t.depth i = inr (j, next_near next, subst (λ k. above t.depth k ≤ old.pins_left + above t.depth j) same (omega arith)) in
      agrees_got mid (kind_at t.dir 0) (walk.found (inr has)) there

  enough : HasLeafPins old t i → (0 < mid.pins_left) ⊎ Got mid (kind_at t.dir 0) leaf
  enough has = ⊎_elim
      (λ (le : t.depth + 1 ≤ old.pins_left). inl (omega (arith, le, pins)))
      (λ h. ⊎_elim
      (λ same. inr (got_before h.0 h.1 same))
      (λ ne. inl (let p = near h.0 (next_near h.1) in let le : i + above t.depth i ≤ old.pins_left + (h.0 + above t.depth h.0) = h.2 in omega (arith, p, le, ne, h.1.from, h.1.to)))
      (cases_eq h.0 i))
      has

  pub leaf_is : IsLeafFound old t i → Agrees old.tells leaf (block_at new t t.depth i)
  leaf_is is =
      agrees_on (walk.found (leaf_found old t i is))
      (sym (⊎_elim
      (λ told. told_same more more_looks (all.still_tells.1 told) t t.depth i)
      (λ has. way_same more more_looks t t.depth i (walk.way (leaf_has_pins old t i has)))
      is))

  -- where the device tells, or the leaf stands on it, it is the one
  pub leaf_local : IsLeafFound old t i → IsLocal new t i → (b : ℕ) × (leaf ≡ Local b)
  leaf_local is local = (local.0, local_agrees (leaf_is is) (address_leaf new t i local.0 local.1))

  pub leaf_known : IsLeafFound old t i → old.tells ⊎ IsLocal new t i → leaf ≡ block_at new t t.depth i
  leaf_known is known = ⊎_elim (λ told. (leaf_is is).0 told) (λ local. let e = address_leaf new t i local.0 local.1 in local_agrees (leaf_is is) e ∙ sym e) known

  pub leaf_way : ((0 < mid.pins_left) ⊎ Got mid (kind_at t.dir 0) leaf → Got new (kind_at t.dir 0) leaf) → HasLeafPins old t i → LeafWay new t i
  leaf_way got has =
      let way = walk.way (leaf_has_pins old t i has) in
      record {
        way = way_looks more more_looks t t.depth i way;
        leaf = got_agrees new (kind_at t.dir 0) (leaf_is (inr has)) (got (enough has));
      }

  pub leaf_near : mid.pins_left ≤ new.pins_left + 1 → (Got mid (kind_at t.dir 0) leaf → mid.pins_left ≤ new.pins_left) → (j : ℕ) → IsNext old t j i → old.pins_left + passed t.depth j ≤ new.pins_left + passed t.depth i
  leaf_near one again j next =
      let p = near j (next_near next) in
      ⊎_elim
      (λ same. let le = again (got_before j next same) in omega (arith, p, le, same))
      (λ ne. omega (arith, p, one, ne, next.from, next.to))
      (cases_eq j i)
