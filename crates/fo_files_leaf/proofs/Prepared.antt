-- The blocks of a source that is prepared at a leaf.
use Rattle.std.proofs.Common.{◌≡◌, ◌-◌, ◌*◌, ◌/◌, ◌<◌, ℕ, zero, suc, List, Some, ⊎_elim, sym, ap, subst, ◌∙◌, arith}
use Rattle.std.proofs.lemmas.Bool.{cases_lt}
use Rattle.fo_image.specs.declared.types.Pointer.{Pointer}
use Rattle.fo_image.specs.declared.types.Pointer.TheVariants.{Nil, Local, Score as Held}
use Rattle.fo_ports.specs.State.{State}
use Rattle.fo_tree_read.specs.declared.tree.Tree.{Tree}
use Rattle.fo_tree_read.specs.Tree.{kind_at, block_at, address_of}
use Rattle.fo_tree_look.specs.declared.ways.Kept.{Kept}
use Rattle.fo_tree_look.specs.Source.{Over, Prepared, IsPrepared, Ready, WayReady, address_here, seen}
use Rattle.fo_tree_look.proofs.Held.{seen_address}
use Rattle.fo_tree_look.proofs.Places.{is_here}
use Rattle.fo_tree_look.proofs.Shown.{top_ready}
use Rattle.fo_tree_shorten.proofs.of_tree_down.Topping.{ready_local}

pub local_of : (p : Pointer) (at : ℕ) → address_of p ≡ Some at → p ≡ Local at
local_of Nil at e = absurd (let h = e in cc)
local_of (Local x) at e = cc
local_of (Held score) at e = absurd (let h = e in cc)

leaf_number : (i : ℕ) → 8192 * i / 8192 ≡ i
leaf_number i = omega arith

-- the way to a leaf that is here is prepared
pub leaf_way : (s : State) (t : Tree) (kept : List Kept) (limit i : ℕ) → Prepared s t kept limit (8192 * i) 8192 → 8192 * i < t.size → WayReady s t kept t.depth i
leaf_way s t kept limit i was inside = subst (λ k. WayReady s t kept t.depth k) (leaf_number i) (was.each (8192 * i) (omega arith) (omega arith) inside)

-- so is the block in which it stands
pub leaf_ready : (s : State) (t : Tree) (kept : List Kept) (limit i at : ℕ) → Prepared s t kept limit (8192 * i) 8192 → address_here s t i ≡ Some at → IsPrepared s (kind_at t.dir 0) t.tag at
leaf_ready s t kept limit i at was there =
    let here = is_here s t i at there in
    let local : block_at (seen s kept) t t.depth i ≡ Local at = local_of (block_at (seen s kept) t t.depth i) at (seen_address s kept t t.depth i ∙ ap (λ p. address_of p) here.is) in
    let level : t.depth - t.depth ≡ 0 = omega arith in
    subst (λ n. IsPrepared s (kind_at t.dir n) t.tag at) level (subst (λ p. Ready s t kept t.depth p) local (top_ready s t kept t.depth i (leaf_way s t kept limit i was here.inside)))

-- and the top
way_top : (s : State) (t : Tree) (kept : List Kept) (n k : ℕ) → WayReady s t kept n k → Ready s t kept zero t.top
way_top s t kept zero k ready = ready
way_top s t kept (suc n) k ready = way_top s t kept n (k / 409) ready.0

nil_local : (at : ℕ) → Nil ≡ Local at → ⊥
nil_local at e = cc

pub top_prepared : (s : State) (t : Tree) (kept : List Kept) (limit i at : ℕ) → Over s t kept limit → Prepared s t kept limit (8192 * i) 8192 → t.top ≡ Local at → IsPrepared s (kind_at t.dir t.depth) t.tag at
top_prepared s t kept limit i at over was is = ready_local s t kept at is (⊎_elim
    (λ inside. way_top s t kept t.depth i (leaf_way s t kept limit i was inside))
    (λ past. ⊎_elim
    (λ some. way_top s t kept t.depth ((t.size - 1) / 8192) (was.last (omega (arith, past)) some))
    (λ none. absurd (nil_local at (sym (over.empty (omega (arith, none))) ∙ is)))
    (cases_lt 0 t.size))
    (cases_lt (8192 * i) t.size))
