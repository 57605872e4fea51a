-- A leaf that is prepared is a data block.
use Rattle.std.proofs.Common.{◌≡◌, ◌*◌, ◌/◌, ◌%◌, ◌<◌, ℕ, zero, suc, Bool, true, false, List, Some, None, Option, get_or, cond, sym, ap, subst, ⊎_elim, ◌∙◌}
use Rattle.std.specs.Prelude.{take, drop}
use Rattle.std.proofs.lemmas.Bool.{cases_eq}
use Rattle.fo_image.specs.declared.types.Pointer.{Pointer}
use Rattle.fo_image.specs.declared.types.Pointer.TheVariants.{Nil, Local, Score as Held}
use Rattle.fo_image.specs.declared.types.Score.{Score}
use Rattle.fo_image.specs.Format.{kind_code}
use Rattle.fo_crash.specs.Images.{target}
use Rattle.fo_ports.specs.State.{State, KeepsAll}
use Rattle.fo_files_way.specs.of_tree.declared.source.Source.{Source}
use Rattle.fo_files_way.specs.of_tree_read.declared.tree.Tree.{Tree}
use Rattle.fo_files_way.specs.of_tree_read.Tree.{kind_down, below, is_none, score_in, block_at, address_of}
use Rattle.fo_files_way.specs.of_tree_look.declared.ways.Kept.{Kept}
use Rattle.fo_files_way.specs.of_tree_look.Source.{Ready, WayReady, seen}
use Rattle.fo_files_way.proofs.of_tree_look.Held.{seen_address}
use Rattle.fo_files_way.proofs.of_tree_look.Places.{is_here}
use Rattle.fo_files_way.proofs.of_tree_look.Shown.{top_ready}
use Rattle.fo_files_way.specs.Plan.{IsLeafReady, AreBlocks}
use Rattle.fo_files_way.specs.Owns.{SetsAt}
use Rattle.fo_files_way.proofs.Prepared.{local_of, leaf_way}

cond_held : (none : Bool) (score : Score) (b : ℕ) → cond none Nil (Held score) ≡ Local b → ⊥
cond_held true score b e = cc
cond_held false score b e = cc

held_local : (o : Option (List ℕ)) (i b : ℕ) → score_in o i ≡ Local b → ⊥
held_local None i b e = cc
held_local (Some bytes) i b e = cond_held (is_none (take 20 (drop (20 * i) bytes))) (record { 0 = take 20 (drop (20 * i) bytes) }) b e

module _ (s : State) (t : Tree) (kept : List Kept) (within : (at i b : ℕ) → s.pinned at → target ((s.now at).slot i) ≡ Local b → s.is_block b) where
  block_below : (n i b : ℕ) (p : Pointer) → Ready s t kept n p → below (seen s kept) (kind_down t n) p i ≡ Local b → s.is_block b
  block_below n i b Nil ready e = absurd (nil_local e)
    where
      nil_local : Nil ≡ Local b → ⊥
      nil_local x = cc
  block_below n i b (Local at) ready e = within at i b ready.is_pinned e
  block_below n i b (Held score) ready e = absurd (held_local ((seen s kept).held score (kind_code (kind_down t n))) i b e)

  -- what a way that is prepared leads to
  pub way_block : (n k b : ℕ) → ((x : ℕ) → t.top ≡ Local x → s.is_block x) → WayReady s t kept n k → block_at (seen s kept) t n k ≡ Local b → s.is_block b
  way_block zero k b top way e = top b e
  way_block (suc n) k b top way e = block_below n (k % 409) b (block_at (seen s kept) t n (k / 409)) (top_ready s t kept n (k / 409) way.0) e

-- so a leaf that is
pub leaf_block : (s : State) (x : Source) (i at : ℕ) → ((a j b : ℕ) → s.pinned a → target ((s.now a).slot j) ≡ Local b → s.is_block b) → IsLeafReady s x i at → s.is_block at
leaf_block s x i at within ready =
    let t = x.ways.tree in
    let kept = x.ways.kept.items in
    let here = is_here s t i at ready.there in
    let local : block_at (seen s kept) t t.depth i ≡ Local at = local_of (block_at (seen s kept) t t.depth i) at (seen_address s kept t t.depth i ∙ ap (λ p. address_of p) here.is) in
    way_block s t kept within t.depth i at ready.over.hangs.is_one (leaf_way s t kept x.ways.limit i ready.prepared here.inside) local

-- a list of data blocks, into which one was put
pub blocks_set : (s u : State) (old new : List ℕ) (n at : ℕ) → KeepsAll s u → SetsAt old new n at → AreBlocks s old → u.is_block at → AreBlocks u new
blocks_set s u old new n at all sets blocks block i lt = ⊎_elim
    (λ is. subst (λ x. u.is_block (get_or new x 0)) (sym is) (subst (λ x. u.is_block x) (sym sets.here) block))
    (λ ne. subst (λ x. u.is_block x) (sym (sets.others i ne)) ((all.same_blocks (get_or old i 0)).1 (blocks i (subst (λ m. i < m) sets.count lt))))
    (cases_eq i n)
