-- What a step has to keep in between; and a super block that is tried keeps it.
use Rattle.std.proofs.Common.{◌≡◌, ◌≢◌, ℕ, suc, ◌*◌, Bool, List, [], ◌∷◌, sym, ◌∙◌, ap, subst}
use Rattle.std.specs.List.{Contains}
use Rattle.fo_disk.specs.Disk.{Content as Holds}
use Rattle.fo_image.specs.declared.types.Label.{Label}
use Rattle.fo_image.specs.declared.types.Pointer.TheVariants.{Local}
use Rattle.fo_crash.specs.declared.slot.Slot.{Slot}
use Rattle.fo_crash.specs.declared.place.Place.{Place}
use Rattle.fo_crash.specs.Images.{Content, SameContent, target, to_block}
use Rattle.fo_crash.specs.Places.{root_place}
use Rattle.fo_crash.specs.Steps.{AddsSuper}
use Rattle.fo_cells.specs.Known.{Top, MaySlot, Stands}
use Rattle.fo_cells.specs.Device.{known}
use Rattle.fo_cells.proofs.Standing.{at_b, stands_top, first_among}
use Rattle.fo_cells.proofs.Super.{super_adds, super_stands, may_other}
use Rattle.fo_cells_out.specs.Parents.{view}
use Rattle.fo_cells_out.proofs.Takeout.{same_block}
use Rattle.fo_cells_epochs.specs.Epochs.{Root, HasEpochs, IsLabelSet}
use Rattle.fo_cells_epochs.proofs.Epochs.{tries_epochs}
use Rattle.fo_cells_all.specs.All.{Kept, Format, HoldsBeside}
use Rattle.fo_cells_steps.specs.Calls.{images}
use Rattle.fo_cells_supers.proofs.Supers.{one_slots}
use Rattle.fo_cells_whole.proofs.Certain.{awaited_still}
use Rattle.fo_cells_between.specs.Between.{HoldsBetween, next_top}
use Rattle.fo_cells_between.specs.Steps.{TriesRoot}

-- Memory's slots, labels and waits stay, no slot of a block but block 1 may be there anew, and nothing stands anew.
pub record StaysBetween (c d : Kept) (holds after : Holds) : Type 0 where
  pub high : d.high ≡ c.high
  pub roots : d.roots ≡ c.roots
  pub past : d.past ≡ c.past
  pub queue : d.queue ≡ c.queue
  pub active : d.active ≡ c.active
  pub low : d.mind.low ≡ c.mind.low
  pub label : (b : ℕ) → d.mind.label b ≡ c.mind.label b
  pub memory : (a i : ℕ) → (d.mind.memory a).slot i ≡ (c.mind.memory a).slot i
  pub waits : d.mind.waits ≡ c.mind.waits
  pub may : (a i : ℕ) (s : Slot) → a ≢ 1 → MaySlot (known d.mind after) a i s → MaySlot (known c.mind holds) a i s
  pub stands : (b : ℕ) (q : Place) → Stands (known d.mind after) b q → Stands (known c.mind holds) b q

pub between_by : {root next : ℕ} {first c d : Kept} {f : Format} {unsure later : List Bool} {before holds after : Holds} → StaysBetween c d holds after → HasEpochs (known d.mind after) d.high f.high_of d.doubts d.active d.roots → HoldsBeside d f later after → HoldsBetween root next first before c f unsure holds → HoldsBetween root next first before d f later after
between_by {root} {next} {first} {c} {d} x epochs beside h = record {
  begins = h.begins;
  epochs = epochs;
  beside = beside;
  high = x.high ∙ h.high;
  roots = x.roots ∙ h.roots;
  past = x.past ∙ h.past;
  queue = x.queue ∙ h.queue;
  active = x.active ∙ h.active;
  low = x.low ∙ h.low;
  label = λ b ne. x.label b ∙ h.label b ne;
  live = ap (λ (l : Label). l.state) (x.label next) ∙ h.live;
  epoch = ap (λ (l : Label). l.epoch) (x.label next) ∙ h.epoch;
  memory = λ a i ne. x.memory a i ∙ h.memory a i ne;
  leads = record {
    targets = λ i. ap target (x.memory next i) ∙ h.leads.targets i;
    slots = λ i b e. x.memory next i ∙ h.leads.slots i b (ap target (sym (x.memory next i)) ∙ e);
  };
  may = λ a i s one ne m. h.may a i s one ne (x.may a i s one m);
  may_next = λ i s m. h.may_next i s (x.may next i s h.begins.other m) ∙ sym (x.memory next i);
  stands = λ b q st. h.stands b q (x.stands b q st);
  awaited = awaited_still c d x.waits (λ leaf on k is. x.memory on (2 * k)) h.awaited;
}

-- A SUPER BLOCK THAT NAMES THE NEW ROOT IS TRIED
module _ {s : Content} {root next : ℕ} {first c d : Kept} {f : Format} {unsure later : List Bool} {before holds after : Holds} (t : TriesRoot s next c d f later holds after) (h : HoldsBetween root next first before c f unsure holds) where
  -- it leads to the new root, by slot 0 alone
  named : (i b : ℕ) → target (s.slot i) ≡ Local b → (s.slot i ≡ to_block b) × (b ≡ next)
  named i b e =
      let slot : s.slot i ≡ to_block next = ap (λ j. s.slot j) (t.names.only i b e) ∙ t.names.leads in
      let is : b ≡ next = same_block e (ap target slot) in
      (subst (λ z. s.slot i ≡ to_block z) (sym is) slot, is)

  next_stands : Stands (view (known c.mind holds) c.active) next root_place
  next_stands = stands_top (next_top next) (subst (λ (ts : List Top). Contains ts (next_top next)) (sym h.active) (first_among (next_top next) first.active))

  names : (i b : ℕ) → target (s.slot i) ≡ Local b → (s.slot i ≡ to_block b) × ((c.mind.label b).epoch ≡ f.high_of s) × ((q : Place) × Stands (view (known c.mind holds) c.active) b q) × IsLabelSet (known c.mind holds) b
  names i b e =
      let n = named i b e in (
        n.0,
        ap (λ z. (c.mind.label z).epoch) n.1 ∙ h.epoch ∙ ap suc (sym h.high) ∙ sym t.names.high_is,
        (root_place, subst (λ z. Stands (view (known c.mind holds) c.active) z root_place) (sym n.1) next_stands),
        subst (λ z. IsLabelSet (known c.mind holds) z) (sym n.1) t.set,
      )

  epochs_tried : HasEpochs (known d.mind after) d.high f.high_of d.doubts d.active d.roots
  epochs_tried = subst (λ n. HasEpochs (known d.mind after) n f.high_of d.doubts d.active d.roots) (sym t.same.high) (subst (λ (ds : List Content). HasEpochs (known d.mind after) c.high f.high_of ds d.active d.roots) (sym t.doubts) (subst (λ (ts : List Top). HasEpochs (known d.mind after) c.high f.high_of (s ∷ []) ts d.roots) (sym t.same.active) (subst (λ (rs : List Root). HasEpochs (known d.mind after) c.high f.high_of (s ∷ []) c.active rs) (sym t.same.roots) (tries_epochs t.tries names h.epochs))))

  stays : StaysBetween c d holds after
  stays = record {
    high = t.same.high;
    roots = t.same.roots;
    past = t.same.past;
    queue = t.same.queue;
    active = t.same.active;
    low = t.tries.same.low;
    label = λ b. at_b b t.tries.same.label;
    memory = one_slots c.mind.memory d.mind.memory s t.tries.same.memory (λ i. ap (λ (x : Content). x.slot i) t.tries.here);
    waits = t.tries.same.waits;
    may = λ a i v one m. may_other t.tries.same a i v one m;
    stands = super_stands t.tries;
  }

  pub tried_between : AddsSuper c.mind.memory (λ image. SameContent (image 1) s) (images c holds) (images d after) × HoldsBetween root next first before d f later after
  tried_between = (super_adds t.tries, between_by stays epochs_tried t.beside h)
