-- The leaf of a source, as memory reads it, is a leaf of the directory at whose trail its entry stands.
use Rattle.std.proofs.Common.{◌≡◌, ℕ, zero, suc, ◌*◌, ◌/◌, ◌%◌, ◌^◌, ◌<◌, Bool, true, false, cond, nat_lt, List, [], take, drop, Option, Some, None, refl, sym, ◌∙◌, ap, subst}
use Rattle.std.proofs.lemmas.Bool.{ltb-true}
use Rattle.fo_image.specs.declared.types.Kind.{Kind}
use Rattle.fo_image.specs.declared.types.Pointer.{Pointer}
use Rattle.fo_image.specs.declared.types.Pointer.TheVariants.{Nil, Local, Score as Held}
use Rattle.fo_image.specs.Format.{kind_code}
use Rattle.fo_crash.specs.Images.{Arena, Link, target, goes, way}
use Rattle.fo_ports.specs.State.{State}
use Rattle.fo_tree_read.specs.declared.tree.Tree.{Tree}
use Rattle.fo_tree_read.specs.Tree.{is_none, score_of, score_in, below, kind_down, block_at, leaf_at, address_of, address}
use Rattle.fo_tree_look.specs.Source.{address_here}
use Rattle.fo_dir_images.specs.Leaves.{source_link}
use Rattle.fo_dir_images.specs.Sources.{ReadsSources}
use Rattle.fo_dir_images.proofs.Trailing.{one_down, slot_of}

address_is : (p : Pointer) (b : ℕ) → address_of p ≡ Some b → p ≡ Local b
address_is Nil b e = absurd (cc)
address_is (Held score) b e = absurd (cc)
address_is (Local a) b e = ap (λ x. Local x) (let same : a ≡ b = cc in same)

-- what is held leads to no block of the device
no_local : (bytes : List ℕ) (b : ℕ) → score_of bytes ≡ Local b → ⊥
no_local bytes b e = by (is_none bytes) e
  where
    by : (v : Bool) → cond v Nil (Held (record { 0 = bytes })) ≡ Local b → ⊥
    by true e = cc
    by false e = cc

not_held : (held : Option (List ℕ)) (i b : ℕ) → score_in held i ≡ Local b → ⊥
not_held None i b e = cc
not_held (Some bytes) i b e = no_local (take 20 (drop (20 * i) bytes)) b e

-- a block of the source leads to blocks of the device alone from one
above_local : (s : State) (kind : Kind) (p : Pointer) (i b : ℕ) → below s kind p i ≡ Local b → (a : ℕ) × (p ≡ Local a) × (target ((s.now a).slot i) ≡ Local b)
above_local s kind Nil i b e = absurd (cc)
above_local s kind (Local a) i b e = (a, refl, e)
above_local s kind (Held score) i b e = absurd (not_held (s.held score (kind_code kind)) i b e)

block_is : (s : State) (t : Tree) (arena : Arena) (w : Link) → target w.slot ≡ t.top → (d k b : ℕ) → block_at s t d k ≡ Local b → target ((goes arena s.now w (way d k [])).slot) ≡ Local b
block_is s t arena w top zero k b e = top ∙ e
block_is s t arena w top (suc d) k b e =
    let up = above_local s (kind_down t d) (block_at s t d (k / 409)) (k % 409) b e in
    let rest = block_is s t arena w top d (k / 409) up.0 up.1 in
    ap (λ (x : Link). target x.slot) (one_down arena s.now w d k) ∙ ap target (slot_of arena s.now (goes arena s.now w (way d (k / 409) [])) (k % 409) rest) ∙ up.2

-- leaf n lies within the depth, and is the block of that number
leaf_is : (s : State) (t : Tree) (n b : ℕ) → address s t n ≡ Some b → (n < 409 ^ t.depth) × (block_at s t t.depth n ≡ Local b)
leaf_is s t n b e = by (nat_lt n (409 ^ t.depth)) refl (address_is (leaf_at s t n) b e)
  where
    by : (v : Bool) → nat_lt n (409 ^ t.depth) ≡ v → cond v (block_at s t t.depth n) Nil ≡ Local b → (n < 409 ^ t.depth) × (block_at s t t.depth n ≡ Local b)
    by true is e = (ltb-true n (409 ^ t.depth) is, e)
    by false is e = absurd (cc)

-- a leaf within the source's size
here_is : (s : State) (t : Tree) (n b : ℕ) → address_here s t n ≡ Some b → address s t n ≡ Some b
here_is s t n b e = by (nat_lt (8192 * n) t.size) e
  where
    by : (v : Bool) → cond v (address s t n) None ≡ Some b → address s t n ≡ Some b
    by true e = e
    by false e = absurd (cc)

pub reads_sources : (s : State) → ReadsSources s
reads_sources s = record {
  each = λ side arena t n b trail within top depth at.
      let leaf = leaf_is s t n b (here_is s t n b at) in
      let w = source_link side arena s.now s.root trail in
      record {
        way = within;
        room = subst (λ x. n < 409 ^ x) (sym depth) leaf.0;
        leads = ap (λ x. target ((goes arena s.now w (way x n [])).slot)) depth ∙ block_is s t arena w top t.depth n b leaf.1;
      };
}
