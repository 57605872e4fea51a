-- The laws of a slot that is cleared, and of one that leads where it led.
use Rattle.std.proofs.Common.{◌≡◌, inl, ⊎_elim, ℕ, Bool, List, ◌++◌, map, sym, ◌∙◌, ap, subst, arith}
use Rattle.std.specs.List.{Contains}
use Rattle.fo_disk.specs.Disk.{Content as Holds}
use Rattle.fo_image.specs.declared.types.Pointer.TheVariants.{Local}
use Rattle.fo_crash.specs.declared.slot.Slot.{Slot}
use Rattle.fo_crash.specs.Images.{target}
use Rattle.fo_crash.specs.Steps.{AddsNothing, AddsSlot, Fills, HasBytes, cleared}
use Rattle.fo_cells.specs.Known.{Top}
use Rattle.fo_cells.specs.Writes.{Puts, Fires}
use Rattle.fo_cells.specs.Calls.{IsSetLeaf}
use Rattle.fo_cells.specs.Laws.{NoWait}
use Rattle.fo_cells.specs.Safe.{super_top, IsCurrent, KeepsSafe}
use Rattle.fo_cells.specs.Device.{known}
use Rattle.fo_cells.proofs.Waiting.{cleared_leads}
use Rattle.fo_cells.proofs.Putting.{put_adds}
use Rattle.fo_cells.proofs.Firing.{fire_adds}
use Rattle.fo_cells.proofs.Super.{remains_nothing, remains_slot}
use Rattle.fo_cells.proofs.SafeSteps.{put_safe, fire_safe}
use Rattle.fo_cells.proofs.Removing.{removal_adds, removal_has, nothing_brought, one_fill}
use Rattle.fo_cells_out.specs.Removals.{Pending}
use Rattle.fo_cells_out.specs.Parents.{Moves}
use Rattle.fo_cells_out.specs.Origins.{Origins}
use Rattle.fo_cells_out.proofs.Steps.{puts_moves, fires_moves}
use Rattle.fo_cells_all.specs.of_cells_held.Room.{Used}
use Rattle.fo_cells_all.specs.of_cells_epochs.Epochs.{KeepsTrees, root_top}
use Rattle.fo_cells_all.proofs.of_cells_epochs.TreeSteps.{put_trees, fire_trees}
use Rattle.fo_cells_all.specs.All.{Kept, Format}
use Rattle.fo_cells_steps.specs.Division.{HoldsMade}
use Rattle.fo_cells_steps.specs.Calls.{Beside, images}
use Rattle.fo_cells_steps.specs.Taking.{LeavesWith, InTree}
use Rattle.fo_cells_steps.proofs.Taking.{taken_made, tops_stay}
use Rattle.fo_cells_steps.proofs.Alike.{alike_made}

-- A SLOT THAT LEADS NOWHERE THEN
module _ {c d : Kept} {f : Format} {u : Used} {Made : ℕ → Type 0} {h : Origins} {unsure : List Bool} {holds : Holds} {at i : ℕ} {rs : List Pending} (leaves : LeavesWith at i c h rs) (step : InTree at c d rs) (b : Beside c d f u holds) (all : HoldsMade c f Made h unsure holds) where
  abbrev S : Slot
  S = cleared ((c.mind.memory at).slot i)

  nowhere : (z : ℕ) → target S ≡ Local z → ⊥
  nowhere z e = cleared_leads ((c.mind.memory at).slot i) z e

  tops_are : d.mind.tops ≡ d.active ++ map root_top c.roots
  tops_are = step.tops ∙ all.all.epochs.trees.tops ∙ ap (λ (ts : List Top). ts ++ map root_top c.roots) (sym step.active)

  pub cleared_made : Moves at i S (known c.mind holds) (known d.mind holds) → KeepsSafe (known c.mind holds) (known d.mind holds) c.high → KeepsTrees (known c.mind holds) (known d.mind holds) c.active d.active c.roots → d.mind.label ≡ c.mind.label → HoldsMade d f Made h unsure holds
  cleared_made moves safe trees labels = ⊎_elim
      (λ none. alike_made all b step.epoch (step.queue ∙ ap (λ (qs : List Pending). c.queue ++ qs) none.1) (tops_stay {c = c} {d = d} h.Apart step.active trees all) (inl step.within) (λ z e. absurd (nowhere z e)) (λ z e. absurd (none.0 z e)) moves safe trees labels)
      (λ out. taken_made all b (record {
        within = step.within;
        other = step.other;
        current = step.current;
        epoch = step.epoch;
        active = step.active;
        tops = step.tops;
        queue = step.queue ∙ ap (λ (qs : List Pending). c.queue ++ qs) out.3;
      }) out.2 moves nowhere safe trees labels)
      leaves

  current : IsCurrent (known c.mind holds) c.high at
  current = record { young = λ p ne st lt. let e : (c.mind.label at).epoch ≡ c.high = step.current in omega (arith, e, lt) }

  pub removed_made : Puts at i S (known c.mind holds) (known d.mind holds) → AddsSlot c.mind.memory at i S (λ image. Unit {0}) (images c holds) (images d holds) × ((leaf : ℕ) → IsSetLeaf (known d.mind holds) leaf → AddsSlot c.mind.memory at i S (λ image. (image leaf).bytes ≡ (c.mind.memory leaf).bytes) (images c holds) (images d holds) × HasBytes c.mind.memory leaf (images d holds)) × HoldsMade d f Made h unsure holds
  removed_made p =
      let kept = all.all.epochs.safe.kept in
      let k = put_safe p kept (λ was. subst (λ (ts : List Top). Contains ts super_top) (sym step.tops) was) current step.other step.current (nothing_brought (known c.mind holds) ((c.mind.memory at).slot i)) in (
        remains_slot step.other (put_adds p) k.supers,
        λ leaf set. (removal_adds p set step.other k.supers, removal_has p set),
        cleared_made (puts_moves p kept) k (put_trees all.all.epochs.trees p kept tops_are (record { top = subst (λ (ts : List Top). Contains ts super_top) (sym step.active) all.all.epochs.trees.top; fewer = λ t is. subst (λ (ts : List Top). Contains ts t) step.active is }) step.current (λ z e. absurd (nowhere z e))) p.label,
      )

  pub fired_made : {leaf : ℕ} → Fires at i leaf (known c.mind holds) (known d.mind holds) → NoWait (known c.mind holds) (known d.mind holds) → AddsNothing (images c holds) (images d holds) × Fills (λ b j. (b ≡ at) × (j ≡ i)) c.mind.memory (images c holds) (images d holds) × HoldsMade d f Made h unsure holds
  fired_made r waits =
      let k = fire_safe r step.other waits in (
        remains_nothing (fire_adds r) k.supers,
        one_fill r step.other k.supers,
        cleared_made (fires_moves r) k (subst (λ (ts : List Top). KeepsTrees (known c.mind holds) (known d.mind holds) c.active ts c.roots) (sym step.active) (fire_trees all.all.epochs.trees r)) r.label,
      )
