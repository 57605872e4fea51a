-- A snapshot's new root is given out.
use Rattle.std.proofs.Common.{◌≡◌, ◌≢◌, ◌⊎◌, inl, inr, ⊎_elim, ℕ, ◌≤◌, Bool, List, [], ◌∷◌, ◌++◌, map, refl, sym, ◌∙◌, ap, subst, arith}
use Rattle.fo_disk.specs.Disk.{Content as Holds}
use Rattle.fo_image.specs.declared.types.Pointer.TheVariants.{Local}
use Rattle.fo_crash.specs.declared.slot.Slot.{Slot}
use Rattle.fo_crash.specs.declared.place.Place.{Place}
use Rattle.fo_crash.specs.Images.{Content, Reaches, target, to_block}
use Rattle.fo_crash.specs.Places.{super_place, root_place, place_below}
use Rattle.fo_crash.proofs.Reach.{reaches_on}
use Rattle.fo_cells.specs.Known.{Known, Top, Stands}
use Rattle.fo_cells.specs.Safe.{super_top}
use Rattle.fo_cells.specs.Device.{known}
use Rattle.fo_cells.proofs.Standing.{stands_top, stands_below}
use Rattle.fo_cells.proofs.Giving.{give_adds, may_there, may_here, stands_new}
use Rattle.fo_cells.proofs.Removing.{give_super}
use Rattle.fo_cells.proofs.Super.{remains_block}
use Rattle.fo_cells_out.specs.Parents.{view}
use Rattle.fo_cells_held.specs.Room.{Used}
use Rattle.fo_cells_epochs.specs.Epochs.{HasEpochs, root_top}
use Rattle.fo_cells_epochs.proofs.Epochs.{give_epochs}
use Rattle.fo_cells_queue.proofs.Queue.{given_outside}
use Rattle.fo_cells_all.specs.All.{Kept, Format}
use Rattle.fo_cells_all.proofs.All.{beside, beside_step}
use Rattle.fo_cells_steps.specs.Calls.{Beside}
use Rattle.fo_cells_steps.proofs.Facts.{unled}
use Rattle.fo_cells_steps.proofs.Still.{epochs_rest}
use Rattle.fo_cells_whole.specs.of_cells_blocks.Giving.{AddsThis}
use Rattle.fo_cells_turns.specs.Opening.{none_made, no_origins}
use Rattle.fo_cells_whole.specs.Whole.{HoldsWhole}
use Rattle.fo_cells_whole.proofs.Certain.{given_awaited}
use Rattle.fo_cells_between.specs.Between.{HoldsBetween, next_top}
use Rattle.fo_cells_between.specs.Steps.{GivesRoot}

module _ {root next : ℕ} {content : Content} {first c : Kept} {f : Format} {x : Used} {unsure : List Bool} {before : Holds} (o : GivesRoot root next content first c before) (b : Beside first c f x before) (all : HoldsWhole first f none_made no_origins unsure before) where
  abbrev K : Known
  K = known first.mind before

  abbrev V : Known
  V = view K first.active

  root_led : target ((first.mind.memory 1).slot 0) ≡ Local root
  root_led = ap target o.leads

  root_in : Reaches first.mind.memory (to_block 1) root
  root_in = record { path = 0 ∷ []; leads = root_led }

  root_stands : Stands V root root_place
  root_stands = subst (λ (s : Slot). Stands V root (place_below super_place 0 s)) o.leads (stands_below 0 ((first.mind.memory 1).slot 0) root (stands_top super_top all.made.all.epochs.trees.top) (inr (inl refl)) root_led)

  -- what it leads to hangs from the old root, by the same slot
  led : (i t : ℕ) → target (content.slot i) ≡ Local t → target ((first.mind.memory root).slot i) ≡ Local t
  led i t e = ap target (sym (o.content_leads.slots i t e)) ∙ e

  there : (i t : ℕ) → target (content.slot i) ≡ Local t → Stands V t (place_below root_place i (content.slot i))
  there i t e = subst (λ (s : Slot). Stands V t (place_below root_place i s)) (sym (o.content_leads.slots i t e)) (stands_below i ((first.mind.memory root).slot i) t root_stands (inr (inl refl)) (led i t e))

  lower : (i t : ℕ) → target (content.slot i) ≡ Local t → (first.mind.label t).epoch ≤ (c.mind.label next).epoch
  lower i t e =
      let ne : t ≢ 1 = λ is. unled all.made root i root_in (led i t e ∙ ap (λ z. Local z) is) in
      let up = (all.made.all.epochs.safe.live t ne (reaches_on i root_in (led i t e))).1 in
      let high = o.epoch in
      omega (arith, up, high)

  outside : ((Rattle.fo_cells_steps.specs.Division.division first none_made).Within next → ⊥) × (((Rattle.fo_cells_steps.specs.Division.division first none_made).Covered next ⊎ none_made next) → ⊥)
  outside = given_outside o.gives.gives o.gives.usable all.made.all.epochs.safe all.made.all.epochs.trees all.made.all.queue

  tops_are : c.mind.tops ≡ (next_top next ∷ first.active) ++ map root_top first.roots
  tops_are = o.gives.tops ∙ ap (λ (ts : List Top). ts ++ map root_top first.roots) o.gives.active

  epochs_now : HasEpochs (known c.mind before) c.high f.high_of c.doubts c.active c.roots
  epochs_now = epochs_rest f o.gives.epoch (subst (λ (ts : List Top). HasEpochs (known c.mind before) first.high f.high_of first.doubts ts first.roots) (sym o.gives.active) (give_epochs o.gives.gives o.gives.other o.gives.begun o.gives.live (λ i t e. (lower i t e, there i t e)) tops_are o.gives.waits b.read all.made.all.epochs))

  between : HoldsBetween root next first before c f unsure before
  between = record {
    begins = record {
      unsure = unsure;
      whole = all;
      read = b.read;
      active = o.active;
      leads = o.leads;
      only = o.only;
      low = o.low;
      begun = o.begun;
      other = o.gives.other;
      nowhere = o.gives.gives.nowhere;
      fresh = (outside.0, λ is. outside.1 (inl is));
    };
    epochs = epochs_now;
    beside = beside_step b.steps (beside all.made.all);
    high = o.gives.epoch.high;
    roots = o.gives.epoch.roots;
    past = o.gives.epoch.past;
    queue = o.gives.queue;
    active = o.gives.active;
    low = o.gives.gives.low;
    label = λ z ne. o.gives.gives.label z ne;
    live = o.gives.live;
    epoch = o.epoch;
    memory = λ a i ne. (o.gives.gives.memory.others a ne).slots i;
    leads = record {
      targets = λ i. ap target (o.gives.gives.memory.here.slots i) ∙ o.content_leads.targets i;
      slots = λ i t e. o.gives.gives.memory.here.slots i ∙ o.content_leads.slots i t (ap target (sym (o.gives.gives.memory.here.slots i)) ∙ e);
    };
    may = λ a i s one ne m. may_there o.gives.gives a i s ne m;
    may_next = λ i s m. may_here o.gives.gives i s m ∙ sym (o.gives.gives.memory.here.slots i);
    stands = λ z q st. ⊎_elim (λ was. inl was) (λ n. inr n.0) (stands_new o.gives.gives z q st);
    awaited = given_awaited o.gives.gives o.gives.waits all.awaited;
  }

  pub given_between : AddsThis next content first c before × HoldsBetween root next first before c f unsure before
  given_between = (remains_block o.gives.other (give_adds o.gives.gives (λ t. (r : Place) × Stands K t r) (λ t is. is)) (give_super o.gives.gives o.gives.other), between)
