-- Which step owns a leaf.
use Rattle.std.specs.List.{range_with_len}
use Rattle.std.proofs.Common.{◌≡◌, ◌≢◌, ◌⊎◌, ◌+◌, ◌*◌, ◌<◌, ◌≤◌, ℕ, Bool, false, cond, nat_le, map, max, inl, inr, ⊎_elim, refl, sym, ◌∙◌, ap, arith}
use Rattle.std.proofs.lemmas.Bool.{lt-leb}
use Rattle.std.proofs.lemmas.List.FromFn.{length-map-range_with_len}
use Rattle.fo_sparse.specs.Written.{resized}
use Rattle.fo_sparse.proofs.Lists.{is_resized}
use Rattle.fo_image.specs.declared.types.Pointer.TheVariants.{Nil, Local}
use Rattle.fo_ports.specs.State.{State, none}
use Rattle.fo_ports.specs.Sources.{Changes, depth_for, way_for, most_to_own}
use Rattle.fo_tree_read.specs.declared.tree.Tree.{Tree}
use Rattle.fo_tree_read.specs.Tree.{kind_at}
use Rattle.fo_tree_look.specs.Source.{HasBlock, IsTopCurrent}
use Rattle.fo_tree_grow.specs.of_tree_down.Way.{with_top}
use Rattle.fo_tree_grow.specs.Grow.{shaped, sized}
use Rattle.fo_tree_grow.proofs.Growing.{changes_of}
use Rattle.fo_tree_lift.specs.Owns.{with_leaf}

-- ---- the tree with the leaf

pub max_left : (a b : ℕ) → b ≤ a → a ≡ max a b
max_left a b le = omega (arith, le)

pub max_right : (a b : ℕ) → a ≤ b → b ≡ max a b
max_right a b le = omega (arith, le)

shape_of : (t : Tree) (top a b : ℕ) → a ≡ b → with_top (shaped t (depth_for a) a) top ≡ with_top (shaped t (depth_for b) b) top
shape_of t top a b e = ap (λ z. with_top (shaped t (depth_for z) z) top) e

pub leaf_past : (t : Tree) (i top : ℕ) → t.size < 8192 * (i + 1) → with_top (shaped t (depth_for (8192 * (i + 1))) (8192 * (i + 1))) top ≡ with_leaf t i top
leaf_past t i top lt = shape_of t top (8192 * (i + 1)) (max t.size (8192 * (i + 1))) (max_right t.size (8192 * (i + 1)) (omega (arith, lt)))

pub leaf_next : (t : Tree) (i top : ℕ) → t.size < 8192 * (i + 1) → t.depth ≡ depth_for (8192 * (i + 1)) → with_top (sized t (8192 * (i + 1))) top ≡ with_leaf t i top
leaf_next t i top lt levels = ap (λ d. with_top (shaped t d (8192 * (i + 1))) top) levels ∙ leaf_past t i top lt

pub leaf_within : (t : Tree) (i top : ℕ) → 8192 * (i + 1) ≤ t.size → t.depth ≡ depth_for t.size → with_top t top ≡ with_leaf t i top
leaf_within t i top le least = ap (λ d. with_top (shaped t d t.size) top) least ∙ shape_of t top t.size (max t.size (8192 * (i + 1))) (max_left t.size (8192 * (i + 1)) le)

-- ---- how many blocks it takes

cond_false : (b : Bool) (x y : ℕ) → b ≡ false → cond b x y ≡ y
cond_false b x y e = ap (λ c. cond c x y) e

pub most_past : (size i : ℕ) → size < 8192 * (i + 1) → most_to_own size i ≡ 2 * (depth_for (8192 * (i + 1)) + 1)
most_past size i lt = cond_false (nat_le (8192 * (i + 1)) size) (way_for size) (2 * way_for (8192 * (i + 1))) (lt-leb (8192 * (i + 1)) size lt)

pub none_current : (s : State) (t : Tree) → t.top ≡ Nil → IsTopCurrent s t → ⊥
none_current s t e top = let f : Nil ≡ Local top.at = sym e ∙ top.is in cc

-- ---- bytes

-- a list of so many values is as long
pub same_length : (f : ℕ → ℕ) (len z : ℕ) → len ≡ z → map f (range_with_len 0 len) ≡ resized (map f (range_with_len 0 len)) z
same_length f len z e =
    is_resized (map f (range_with_len 0 len)) (map f (range_with_len 0 len)) (λ k lt. refl)
    ∙ ap (λ n. resized (map f (range_with_len 0 len)) n) (length-map-range_with_len f 0 len ∙ e)

-- ---- changes

pub changes_wide : {s u : State} {t : Tree} → Changes t.tag (λ b. t.top ≡ Local b) none s u → Changes t.tag (HasBlock s t) (λ b. HasBlock s t b × ((s.label b).kind ≢ kind_at t.dir 0)) s u
changes_wide {s = s} {t = t} x = changes_of (λ b e. record { down = 0; index = 0; within = omega arith; is = e }) (λ b h. absurd h) x

-- ---- where a source ends

pub ends_past : {A B : Type 0} (size z : ℕ) → size < z → A ⊎ (B ⊎ (z ≤ size)) → A ⊎ B
ends_past size z lt ends = ⊎_elim (λ a. inl a) (λ rest. ⊎_elim (λ b. inr b) (λ le. absurd (omega (arith, lt, le))) rest) ends
