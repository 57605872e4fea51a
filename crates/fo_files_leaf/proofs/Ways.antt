-- The leaf of a source that is prepared is a data block.
use Rattle.std.proofs.Common.{◌≡◌, ◌*◌, ◌/◌, ◌%◌, ℕ, zero, suc, Bool, true, false, cond, List, Option, Some, None, ap, ◌∙◌}
use Rattle.fo_image.specs.declared.types.Score.{Score}
use Rattle.fo_image.specs.declared.types.Pointer.{Pointer}
use Rattle.fo_image.specs.declared.types.Pointer.TheVariants.{Nil, Local, Score as Held}
use Rattle.fo_image.specs.Format.{kind_code}
use Rattle.fo_crash.specs.Images.{target}
use Rattle.fo_ports.specs.State.{State}
use Rattle.fo_tree_read.specs.declared.tree.Tree.{Tree}
use Rattle.fo_tree_read.specs.Tree.{Hangs, kind_down, below, block_at, address_of, score_in}
use Rattle.fo_tree_look.specs.declared.ways.Kept.{Kept}
use Rattle.fo_tree_look.specs.Source.{Prepared, Ready, WayReady, address_here, seen}
use Rattle.fo_tree_look.proofs.Held.{seen_address}
use Rattle.fo_tree_look.proofs.Places.{is_here}
use Rattle.fo_tree_look.proofs.Shown.{top_ready}
use Rattle.fo_files_leaf.proofs.Prepared.{local_of, leaf_way}

-- what pinned blocks name are data blocks
abbrev pub NamesBlocks : State → Type 0
NamesBlocks s = (at i b : ℕ) → s.pinned at → target ((s.now at).slot i) ≡ Local b → s.is_block b

nil_local : (b : ℕ) → Nil ≡ Local b → ⊥
nil_local b e = cc

score_local : (c : Bool) (score : Score) (b : ℕ) → cond c Nil (Held score) ≡ Local b → ⊥
score_local true score b e = cc
score_local false score b e = cc

held_local : (bytes : Option (List ℕ)) (i b : ℕ) → score_in bytes i ≡ Local b → ⊥
held_local None i b e = nil_local b e
held_local (Some bytes) i b e = score_local _ _ b e

-- so is what a block on a way names
below_one : (s : State) (t : Tree) (kept : List Kept) (n i b : ℕ) (p : Pointer) → NamesBlocks s → Ready s t kept n p → below (seen s kept) (kind_down t n) p i ≡ Local b → s.is_block b
below_one s t kept n i b Nil names ready e = absurd (nil_local b e)
below_one s t kept n i b (Local at) names ready e = names at i b ready.is_pinned e
below_one s t kept n i b (Held score) names ready e = absurd (held_local ((seen s kept).held score (kind_code (kind_down t n))) i b e)

way_one : (s : State) (t : Tree) (kept : List Kept) (n k b : ℕ) → NamesBlocks s → Hangs s t → WayReady s t kept n k → block_at (seen s kept) t n k ≡ Local b → s.is_block b
way_one s t kept zero k b names hangs way e = hangs.is_one b e
way_one s t kept (suc n) k b names hangs way e = below_one s t kept n (k % 409) b (block_at (seen s kept) t n (k / 409)) names (top_ready s t kept n (k / 409) way.0) e

-- a leaf that is prepared is a data block
pub leaf_one : (s : State) (t : Tree) (kept : List Kept) (limit i b : ℕ) → NamesBlocks s → Hangs s t → Prepared s t kept limit (8192 * i) 8192 → address_here s t i ≡ Some b → s.is_block b
leaf_one s t kept limit i b names hangs was there =
    let here = is_here s t i b there in
    let local : block_at (seen s kept) t t.depth i ≡ Local b = local_of (block_at (seen s kept) t t.depth i) b (seen_address s kept t t.depth i ∙ ap (λ p. address_of p) here.is) in
    way_one s t kept t.depth i b names hangs (leaf_way s t kept limit i was here.inside) local
