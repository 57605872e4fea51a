-- The way above the last leaf, where slots of its blocks stay or were cleared.
use Rattle.std.proofs.Common.{◌≡◌, ◌-◌, ◌/◌, ◌%◌, ℕ, zero, suc, List, inl, inr, ⊎_elim, refl, sym, ◌∙◌, ap, subst, arith}
use Rattle.fo_image.specs.declared.types.Pointer.{Pointer}
use Rattle.fo_image.specs.declared.types.Pointer.TheVariants.{Nil, Local, Score as Held}
use Rattle.fo_image.specs.Format.{kind_code}
use Rattle.fo_crash.specs.declared.slot.Slot.{Slot}
use Rattle.fo_crash.specs.declared.slot.Slot.TheVariants.{Pointer as To, Entry as Head, Prev}
use Rattle.fo_crash.specs.Images.{target}
use Rattle.fo_crash.specs.Steps.{cleared}
use Rattle.fo_ports.specs.State.{State, StaysKnown}
use Rattle.fo_tree_read.specs.declared.tree.Tree.{Tree}
use Rattle.fo_tree_read.specs.Tree.{kind_down, below, block_at}
use Rattle.fo_tree_read.proofs.Walk.{held_apart}
use Rattle.fo_tree_look.specs.declared.ways.Kept.{Kept}
use Rattle.fo_tree_look.specs.Source.{IsPrepared, Ready, WayReady}
use Rattle.fo_tree_down.specs.Clear.{last_leaf}
use Rattle.fo_tree_down.specs.Way.{OnWay}
use Rattle.fo_tree_down.proofs.Next.{local_seen}
use Rattle.fo_tree_trim.specs.Trim.{OnEnd}

-- From one state to another no slot of a block of this tag that was pinned was led to a block.
pub record LedNowhere (s u : State) (tag : ℕ) : Type 0 where
  pub each : (a j b : ℕ) → s.pinned a → (s.label a).tag ≡ tag → target ((u.now a).slot j) ≡ Local b → target ((s.now a).slot j) ≡ Local b

no_block : {b : ℕ} → Nil ≡ Local b → ⊥
no_block e = cc

module _ {s u : State} (t : Tree) (kept : List Kept) (x : LedNowhere s u t.tag) where
  ready_at : (n k a : ℕ) → WayReady s t kept n k → block_at s t n k ≡ Local a → s.pinned a × ((s.label a).tag ≡ t.tag)
  ready_at zero k a way e = let is : IsPrepared s (kind_down t zero) t.tag a = subst (λ (p : Pointer). Ready s t kept zero p) e way in (is.is_pinned, is.tagged)
  ready_at (suc n) k a way e = let is : IsPrepared s (kind_down t (suc n)) t.tag a = subst (λ (p : Pointer). Ready s t kept (suc n) p) (local_seen s kept t (suc n) k a e) way.1 in (is.is_pinned, is.tagged)

  block_back : (n k b : ℕ) → WayReady s t kept n k → block_at u t n k ≡ Local b → block_at s t n k ≡ Local b
  block_back zero k b way e = e
  block_back (suc n) k b way e = from (block_at u t n (k / 409)) refl (λ a is. block_back n (k / 409) a way.0 is)
    where
      from : (p : Pointer) → block_at u t n (k / 409) ≡ p → ((a : ℕ) → block_at u t n (k / 409) ≡ Local a → block_at s t n (k / 409) ≡ Local a) → block_at s t (suc n) k ≡ Local b
      from Nil is above = absurd (no_block (ap (λ (p : Pointer). below u (kind_down t n) p (k % 409)) (sym is) ∙ e))
      from (Held score) is above = absurd (held_apart (u.held score (kind_code (kind_down t n))) (k % 409) b (ap (λ (p : Pointer). below u (kind_down t n) p (k % 409)) (sym is) ∙ e))
      from (Local a) is above =
          let was = above a is in
          let ready = ready_at n (k / 409) a way.0 was in
          ap (λ (p : Pointer). below s (kind_down t n) p (k % 409)) was ∙ x.each a (k % 409) b ready.0 ready.1 (ap (λ (p : Pointer). below u (kind_down t n) p (k % 409)) (sym is) ∙ e)

  way_back : (n k b : ℕ) → WayReady s t kept n k → OnWay u t n k b → OnWay s t n k b
  way_back zero k b way e = e
  way_back (suc n) k b way on = ⊎_elim
      (λ above. inl (way_back n (k / 409) b way.0 above))
      (λ e. inr (block_back (suc n) k b way e))
      on

  pub end_back : WayReady s t kept t.depth (last_leaf t.size) → (b : ℕ) → OnEnd u t b → OnEnd s t b
  end_back way b on =
      let deep = on.0 in
      let level : t.depth ≡ suc (t.depth - 1) = omega (arith, deep) in
      let whole : WayReady s t kept (suc (t.depth - 1)) (last_leaf t.size) = subst (λ n. WayReady s t kept n (last_leaf t.size)) level way in
      (on.0, way_back (t.depth - 1) (last_leaf t.size / 409) b whole.0 on.1)

cleared_leads : (q : Slot) (b : ℕ) → target (cleared q) ≡ Local b → ⊥
cleared_leads (To p) b e = cc
cleared_leads (Head y) b e = cc
cleared_leads (Prev epoch at) b e = cc

-- a settling leads no slot anywhere
pub end_known : (s u : State) (t : Tree) (kept : List Kept) → WayReady s t kept t.depth (last_leaf t.size) → ((b : ℕ) → s.pinned b → StaysKnown s u b) → (b : ℕ) → OnEnd u t b → OnEnd s t b
end_known s u t kept way known b on = end_back {s = s} {u = u} t kept (record {
  each = λ a j c pinned tag e. ⊎_elim
      (λ same. ap (λ (q : Slot). target q) (sym same.0) ∙ e)
      (λ gone. absurd (cleared_leads ((s.now a).slot j) c (ap (λ (q : Slot). target q) (sym gone.2) ∙ e)))
      ((known a pinned).slots j);
}) way b on
