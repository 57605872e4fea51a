-- A source that was changed is the same source, with no fewer levels.
use Rattle.std.proofs.Common.{◌≡◌, ◌≢◌, ◌⊎◌, ◌^◌, ◌≤◌, ℕ, Bool, true, false, ⊎_elim, refl, ap, arith}
use Rattle.std.proofs.lemmas.Bool.{cases_lt}
use Rattle.fo_image.specs.declared.types.Pointer.{Pointer}
use Rattle.fo_image.specs.declared.types.Pointer.TheVariants.{Nil, Local, Score as Held}
use Rattle.fo_ports.specs.State.{State}
use Rattle.fo_ports.specs.Sources.{Form, Made, depth_for}
use Rattle.fo_tree_read.specs.declared.tree.Tree.{Tree}
use Rattle.fo_tree_read.specs.Tree.{kind_at}
use Rattle.fo_tree_look.specs.Source.{HasBlock, form_of}
use Rattle.fo_tree_append.proofs.of_tree_grow.Empty.{has_none}
use Rattle.fo_tree_link.specs.Change.{SameSource}
use Rattle.fo_tree_append.proofs.Seeing.{depth_more}

same_dir : (a b : Bool) → kind_at a 0 ≡ kind_at b 0 → a ≡ b
same_dir true true e = refl
same_dir true false e = cc
same_dir false true e = cc
same_dir false false e = refl

pub same_source : (t new : Tree) (g l h m : ℕ) → form_of new h m ≡ form_of t g l → t.depth ≡ depth_for t.size → new.depth ≡ depth_for new.size → t.size ≤ new.size → new.size ≤ 2 ^ 47 → SameSource t new
same_source t new g l h m form was is longer low = record {
  dir = same_dir new.dir t.dir (ap (λ (f : Form). f.kind) form);
  rank = ap (λ (f : Form). f.rank) form;
  more = ⊎_elim
      (λ lt. let more = depth_more t.size new.size low lt in omega (arith, was, is, more))
      (λ ge.
      let size : t.size ≡ new.size = omega (arith, longer, ge) in
      let same : depth_for t.size ≡ depth_for new.size = ap (λ z. depth_for z) size in
      omega (arith, was, is, same))
      (cases_lt t.size new.size);
}

-- a source without a top comes in the place of nothing
pub only_any : (s u : State) (t new : Tree) (p : Pointer) → new.top ≡ p → ((b : ℕ) → Made s u b → HasBlock u new b) → ((y x : ℕ) → s.instead y x → ⊥) → ((y x : ℕ) → u.instead y x → s.instead y x ⊎ Made s u y)
    → (p ≢ Nil → (y x : ℕ) → u.instead y x → (new.top ≡ Local y) ⊎ (s.instead y x × (t.top ≡ Local y → ⊥))) → (y x : ℕ) → u.instead y x → (new.top ≡ Local y) ⊎ (s.instead y x × (t.top ≡ Local y → ⊥))
only_any s u t new Nil top has none adds only y x h = ⊎_elim
    (λ old. absurd (none y x old))
    (λ made. absurd (has_none u new top y (has y made)))
    (adds y x h)
only_any s u t new (Local b) top has none adds only y x h = only (λ e. cc) y x h
only_any s u t new (Held score) top has none adds only y x h = only (λ e. cc) y x h
