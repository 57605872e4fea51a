-- The entry of a source without bytes is put into the root block.
use Rattle.std.proofs.Common.{◌≡◌, ◌⊎◌, ◌<◌, ℕ, inl, ⊎_elim, sym, ◌∙◌, ap, subst, arith}
use Rattle.std.proofs.lemmas.Bool.{cases_eq}
use Rattle.fo_image.specs.declared.types.Entry.{Entry}
use Rattle.fo_image.specs.declared.types.Kind.{Kind}
use Rattle.fo_image.specs.declared.types.Kind.TheVariants.{Dir, Root}
use Rattle.fo_image.specs.declared.types.Pointer.TheVariants.{Nil, Local}
use Rattle.fo_crash.specs.declared.slot.Slot.TheVariants.{Entry as Head}
use Rattle.fo_crash.specs.Images.{Reaches, target, to_block}
use Rattle.fo_crash.proofs.Reach.{lost}
use Rattle.fo_ports.specs.Blocks.{IsEntry, SlotFits, slot_count, cost, dropped, ends, IsInner}
use Rattle.fo_ports.specs.State.{State, Frame, Hangs, MayPutSlot}
use Rattle.test_names.specs.declared.parts.Part.{Part}
use Rattle.test_names.specs.declared.parts.Part.TheVariants.{Entries, Records}
use Rattle.test_names.specs.Parts.{slot_of, blank_entry}
use Rattle.test_names.specs.Root.{IsInMemory, NoneComes}
use Rattle.test_names.proofs.Ground.{Ground, root_reached, root_free}

nil_local : (b : ℕ) → Nil ≡ Local b → ⊥
nil_local b e = cc

root_dir : Root ≡ Dir 0 → ⊥
root_dir e = cc

blank_holds : (p : Part) → IsEntry (Head (blank_entry p))
blank_holds p = (record { active_holds = (record { room = omega arith; least = λ less lt. absurd (omega (arith, lt)) }, tt) }, omega arith)

blank_fits : (p : Part) → SlotFits Root (slot_of p) (Head (blank_entry p))
blank_fits Entries = blank_holds Entries
blank_fits Records = blank_holds Records

slot_within : (p : Part) → slot_of p < 3
slot_within Entries = omega arith
slot_within Records = omega arith

pub slot_few : (p : Part) (kind : Kind) → kind ≡ Root → slot_of p < slot_count kind
slot_few p kind is = subst (λ k. slot_of p < slot_count k) (sym is) (slot_within p)

-- It may be put where an entry without levels leads to no block.
pub record Blank (s : State) (p : Part) (root : ℕ) (e : Entry) : Type 0 where
  pub ground : Ground s
  pub memory : IsInMemory s
  pub comes : NoneComes s
  pub at_root : root ≡ s.root
  pub slot : (s.now root).slot (slot_of p) ≡ Head e
  pub top : e.top ≡ Nil
  pub depth : e.depth ≡ 0

module _ {s : State} {p : Part} {root : ℕ} {e : Entry} (x : Blank s p root e) where
  kind_is : (s.label root).kind ≡ Root
  kind_is = ap (λ b. (s.label b).kind) x.at_root ∙ x.ground.root_is.1

  pub current_is : (s.label root).epoch ≡ s.high
  current_is = ap (λ b. (s.label b).epoch) x.at_root ∙ x.ground.root_is.2

  reached : Reaches s.now (to_block 1) root
  reached = subst (λ b. Reaches s.now (to_block 1) b) (sym x.at_root) (root_reached x.ground)

  leads_none : (b : ℕ) → target ((s.now root).slot (slot_of p)) ≡ Local b → ⊥
  leads_none b f = nil_local b (sym x.top ∙ sym (ap target x.slot) ∙ f)

  pub may_spell : (slot_of p < slot_count (s.label root).kind) × SlotFits (s.label root).kind (slot_of p) (Head (blank_entry p))
  may_spell = (slot_few p (s.label root).kind kind_is, subst (λ k. SlotFits k (slot_of p) (Head (blank_entry p))) (sym kind_is) (blank_fits p))

  pub never_dir : (s.label root).kind ≡ Dir 0 → ⊥
  never_dir f = root_dir (sym kind_is ∙ f)

  pub no_levels : dropped ((s.now root).slot (slot_of p)) (Head (blank_entry p)) ≡ 0
  no_levels = ap (λ w. dropped w (Head (blank_entry p))) x.slot ∙ (let none : e.depth ≡ 0 = x.depth in omega (arith, none))

  no_ends : ends (target ((s.now root).slot (slot_of p))) Nil ≡ 0
  no_ends = ap (λ q. ends q Nil) (ap target x.slot ∙ x.top)

  pub costs_none : cost ((s.now root).slot (slot_of p)) (Head (blank_entry p)) ≡ 0
  costs_none = let levels = no_levels in let end = no_ends in omega (arith, levels, end)

  not_inner : IsInner (s.label root).kind → ⊥
  not_inner inner = absurd (subst (λ k. IsInner k) kind_is inner)

  pub may_put : MayPutSlot s root (slot_of p) (Head (blank_entry p))
  may_put = record {
    brings = record { each = λ b r. absurd (lost s.now r.path (Head (blank_entry p)) nil_local b r.leads) };
    fits = record { each = λ b q stands f. absurd (nil_local b f) };
    lower = λ b q stands f. absurd (nil_local b f);
    parent = record { each = λ b f older. absurd (nil_local b f) };
    comes = λ b f. absurd (nil_local b f);
    leaves = record { each = λ y z h r. absurd (x.comes.each y z h); still = λ b j waits r. absurd (x.memory.quiet b j waits) };
    uncovered = subst (λ b. s.covered b → ⊥) (sym x.at_root) (root_free x.ground);
    first = λ inner i z f. absurd (not_inner inner);
    holder = inl reached;
    linked = λ some. reached;
    entry = λ outer b f ne. reached;
    keeps = λ b f. absurd (leads_none b f);
  }

  -- nothing comes in the place of another block then
  pub none_put : {u : State} → Frame (λ b. b ≡ root) (λ b. (b ≡ root) ⊎ (Nil ≡ Local b)) (cost ((s.now root).slot (slot_of p)) (Head (blank_entry p))) s u → Hangs root (slot_of p) (Head (blank_entry p)) s u → NoneComes u
  none_put {u = u} frame hangs = record {
    each = λ y z h. ⊎_elim
        (λ here. ⊎_elim (λ old. x.comes.each root z old) (λ raised. not_inner raised.0.1) (hangs.raised z (subst (λ b. u.instead b z) here h)))
        (λ ne. x.comes.each y z ((frame.stays.instead y z (λ n. n) (λ put. ⊎_elim ne (nil_local y) put)).0 h))
        (cases_eq y root);
  }
