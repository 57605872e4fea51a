-- Two images that match by a relation of addresses show the same trees.
use Rattle.std.proofs.Common.{◌≡◌, ℕ, suc, zero, List, [], ◌∷◌, refl, sym, ◌∙◌, ap, subst}
use Rattle.fo_image.specs.declared.types.Kind.{Kind}
use Rattle.fo_image.specs.declared.types.Kind.TheVariants.{Data, Dir, Root}
use Rattle.fo_image.specs.declared.types.Score.{Score}
use Rattle.fo_image.specs.declared.types.Pointer.{Pointer}
use Rattle.fo_image.specs.declared.types.Pointer.TheVariants.{Nil, Local, Score as Held}
use Rattle.fo_crash.specs.declared.slot.Slot.{Slot}
use Rattle.fo_crash.specs.declared.slot.Slot.TheVariants.{Pointer as To, Entry as Head, Prev}
use Rattle.fo_crash.specs.Images.{Image, Arena, Link, target, note, kind_of_top, kind_below, goes, step, meant, found, SameTree}
use Rattle.fo_crash.specs.Shows.{SameTarget, SameSlot, SameBlock, Matches}

-- the kind below a slot is a matter of its note
top_of_note : (s : Slot) → kind_of_top s ≡ kind_of_top (note s)
top_of_note (To p) = refl
top_of_note (Head e) = refl
top_of_note (Prev epoch at) = refl

below_of_note : (kind : Kind) (s : Slot) → kind_below kind s ≡ kind_below kind (note s)
below_of_note (Data zero) s = refl
below_of_note (Data (suc level)) s = refl
below_of_note (Dir zero) s = top_of_note s
below_of_note (Dir (suc level)) s = refl
below_of_note Root s = top_of_note s

pub same_below : (kind : Kind) (s t : Slot) → note s ≡ note t → kind_below kind s ≡ kind_below kind t
same_below kind s t e = below_of_note kind s ∙ ap (λ n. kind_below kind n) e ∙ sym (below_of_note kind t)

-- related links: of one kind, with related slots
pub record SameLink (B : ℕ → ℕ → Type 0) (w v : Link) : Type 0 where
  pub kinds : w.kind ≡ v.kind
  pub slots : SameSlot B w.slot v.slot

module _ {B : ℕ → ℕ → Type 0} {arena : Arena} {image other : Image} (m : Matches B arena image other) where
  meant_same : (kind : Kind) (p q : Pointer) → SameTarget B p q → SameBlock B (meant arena image kind p) (meant arena other kind q)
  meant_same kind Nil Nil h = record { bytes = refl; slots = λ i. record { notes = refl; targets = tt } }
  meant_same kind (Local a) (Local b) h = m.blocks a b h
  meant_same kind (Held x) (Held y) h = subst (λ (z : Score). SameBlock B (arena kind x) (arena kind z)) h (m.held kind x)
  meant_same kind Nil (Local b) h = absurd h
  meant_same kind Nil (Held b) h = absurd h
  meant_same kind (Local a) Nil h = absurd h
  meant_same kind (Local a) (Held b) h = absurd h
  meant_same kind (Held a) Nil h = absurd h
  meant_same kind (Held a) (Local b) h = absurd h

  found_same : (w v : Link) → SameLink B w v → SameBlock B (found arena image w) (found arena other v)
  found_same w v h = subst (λ k. SameBlock B (found arena image w) (meant arena other k (target v.slot))) h.kinds (meant_same w.kind (target w.slot) (target v.slot) h.slots.targets)

  goes_same : (path : List ℕ) (w v : Link) → SameLink B w v → SameLink B (goes arena image w path) (goes arena other v path)
  goes_same [] w v h = h
  goes_same (i ∷ path) w v h =
      let next = (found_same w v h).slots i in
      goes_same path (step arena image w i) (step arena other v i) (record {
        kinds = same_below w.kind ((found arena image w).slot i) ((found arena other v).slot i) next.notes ∙ ap (λ k. kind_below k ((found arena other v).slot i)) h.kinds;
        slots = next;
      })

  -- every path from related links finds the same
  pub same_tree : (w v : Link) → SameLink B w v → SameTree arena image w other v
  same_tree w v h = record {
    each = λ path. let g = goes_same path w v h in record { notes = g.slots.notes; bytes = (found_same (goes arena image w path) (goes arena other v path) g).bytes };
  }
