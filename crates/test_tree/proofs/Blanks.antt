-- The entry of a source without bytes is put into the root block.
use Rattle.std.proofs.Common.{◌≡◌, ℕ, inl, sym, ◌∙◌, ap, subst}
use Rattle.fo_image.specs.declared.types.Entry.{Entry}
use Rattle.fo_image.specs.declared.types.Kind.TheVariants.{Root}
use Rattle.fo_image.specs.declared.types.Pointer.TheVariants.{Nil, Local}
use Rattle.fo_crash.specs.declared.slot.Slot.TheVariants.{Entry as Head}
use Rattle.fo_crash.specs.Images.{Reaches, target, to_block}
use Rattle.fo_crash.proofs.Reach.{lost}
use Rattle.fo_ports.specs.Blocks.{IsInner}
use Rattle.fo_ports.specs.State.{State, MayPutSlot}
use Rattle.test_tree.specs.Linked.{Ground, IsInMemory, NoneComes, blank_entry}
use Rattle.test_tree.proofs.Grounds.{root_free, root_reached}

nil_local : (b : ℕ) → Nil ≡ Local b → ⊥
nil_local b e = cc

-- It may be put where an entry without levels leads to no block.
pub record Blank (s : State) (root : ℕ) (e : Entry) : Type 0 where
  pub ground : Ground s
  pub memory : IsInMemory s
  pub comes : NoneComes s
  pub at_root : root ≡ s.root
  pub slot : (s.now root).slot 0 ≡ Head e
  pub top : e.top ≡ Nil
  pub depth : e.depth ≡ 0

module _ {s : State} {root : ℕ} {e : Entry} (x : Blank s root e) where
  kind_is : (s.label root).kind ≡ Root
  kind_is = ap (λ b. (s.label b).kind) x.at_root ∙ x.ground.root_is.1

  reached : Reaches s.now (to_block 1) root
  reached = subst (λ b. Reaches s.now (to_block 1) b) (sym x.at_root) (root_reached x.ground)

  leads_none : (b : ℕ) → target ((s.now root).slot 0) ≡ Local b → ⊥
  leads_none b f = nil_local b (sym x.top ∙ sym (ap target x.slot) ∙ f)

  not_inner : IsInner (s.label root).kind → ⊥
  not_inner inner = absurd (subst (λ k. IsInner k) kind_is inner)

  pub may_put : MayPutSlot s root 0 (Head blank_entry)
  may_put = record {
    brings = record { each = λ b r. absurd (lost s.now r.path (Head blank_entry) nil_local b r.leads) };
    fits = record { each = λ b q stands f. absurd (nil_local b f) };
    lower = λ b q stands f. absurd (nil_local b f);
    parent = record { each = λ b f older. absurd (nil_local b f) };
    comes = λ b f. absurd (nil_local b f);
    leaves = record { each = λ y z h r. absurd (x.comes.each y z h); still = λ b j waits r. absurd (x.memory.quiet b j waits) };
    uncovered = subst (λ b. s.covered b → ⊥) (sym x.at_root) (root_free x.ground);
    first = λ inner i z f. absurd (not_inner inner);
    holder = inl reached;
    linked = λ some. reached;
    entry = λ outer b f ne. reached;
    keeps = λ b f. absurd (leads_none b f);
  }
