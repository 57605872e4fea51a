-- The super block that names the new root counts: the whole holds again.
use Rattle.std.proofs.Common.{◌≡◌, ◌≢◌, ⊎_elim, ℕ, ◌≤◌, ◌*◌, Bool, List, [], ◌∷◌, map, refl, sym, ◌∙◌, ap, subst}
use Rattle.std.proofs.lemmas.Bool.{cases_eq}
use Rattle.std.specs.List.{Contains}
use Rattle.fo_disk.specs.Disk.{Content as Holds}
use Rattle.fo_crash.specs.declared.slot.Slot.{Slot}
use Rattle.fo_crash.specs.Images.{Content, target}
use Rattle.fo_crash.specs.Steps.{AddsNothing}
use Rattle.fo_cells.specs.Known.{Known, Top, IsClear, MaySlot, Remains}
use Rattle.fo_cells.specs.Calls.{CountsSuper}
use Rattle.fo_cells.specs.Safe.{super_top, IsSet}
use Rattle.fo_cells.specs.Device.{Mind, since_of, known}
use Rattle.fo_cells.proofs.Calls.{among_map}
use Rattle.fo_cells.proofs.Flags.{unmarked_set}
use Rattle.fo_cells.proofs.Labels.{label_known}
use Rattle.fo_cells.proofs.Standing.{seen_is, first_among, next_among, not_both}
use Rattle.fo_cells.proofs.Super.{counts_adds}
use Rattle.fo_cells_out.proofs.Takeout.{same_block}
use Rattle.fo_cells_epochs.specs.Epochs.{Root, HasEpochs, BeginsEpoch, FewerTops, IsLabelSet, from_tops, kept_root, root_top}
use Rattle.fo_cells_begin.specs.Begin.{BeginsQueue}
use Rattle.fo_cells_all.specs.All.{Kept, Format, HoldsBeside}
use Rattle.fo_cells_steps.specs.Division.{division}
use Rattle.fo_cells_steps.specs.Calls.{images}
use Rattle.fo_cells_steps.proofs.Facts.{unled}
use Rattle.fo_cells_supers.proofs.Counting.{counted_beside}
use Rattle.fo_cells_turns.specs.Opening.{none_made, no_origins}
use Rattle.fo_cells_whole.specs.of_cells_snapshot.Snapshot.{Snapshots}
use Rattle.fo_cells_whole.specs.Whole.{HoldsWhole}
use Rattle.fo_cells_whole.specs.Awaited.{WaitsUsed}
use Rattle.fo_cells_whole.proofs.Certain.{awaited_still}
use Rattle.fo_cells_whole.proofs.Supers.{snapshot_whole}
use Rattle.fo_cells_between.specs.Between.{HoldsBetween, next_top}
use Rattle.fo_cells_between.specs.Steps.{CountsRoot}
use Rattle.fo_cells_between.proofs.Rest.{retopped}

-- what the epochs are said of, with the fields of before
pub epochs_first : {root next : ℕ} {first c : Kept} {f : Format} {unsure : List Bool} {before holds : Holds} → HoldsBetween root next first before c f unsure holds → HasEpochs (known c.mind holds) first.high f.high_of c.doubts c.active first.roots
epochs_first {root} {next} {first} {c} {f} {unsure} {before} {holds} h = subst (λ n. HasEpochs (known c.mind holds) n f.high_of c.doubts c.active first.roots) h.high (subst (λ (rs : List Root). HasEpochs (known c.mind holds) c.high f.high_of c.doubts c.active rs) h.roots h.epochs)

-- block 1 is a top as before
pub tops_fewer : {root next : ℕ} {first c : Kept} {f : Format} {unsure : List Bool} {before holds : Holds} → HoldsBetween root next first before c f unsure holds → FewerTops c.active (super_top ∷ [])
tops_fewer {next = next} {first = first} {c = c} h = record {
  top = first_among super_top [];
  fewer = λ t is. subst (λ (ts : List Top). Contains ts t) (sym h.active) (next_among (next_top next) t first.active (subst (λ (ts : List Top). Contains ts t) (sym h.begins.active) is));
}

module _ {s : Content} {root next : ℕ} {first c d : Kept} {f : Format} {unsure : List Bool} {before holds : Holds} (x : CountsRoot s root next first c d f holds) (h : HoldsBetween root next first before c f unsure holds) where
  abbrev K : Known
  K = known c.mind holds

  abbrev Roots : List Root
  Roots = kept_root root first.high ∷ first.roots

  abbrev N : Mind
  N = record c.mind { memory = d.mind.memory; tops = super_top ∷ map root_top Roots }

  abbrev E : Known
  E = known N holds

  now_is : known d.mind holds ≡ E
  now_is = ap (λ (m : Mind). known m holds) x.mind

  -- whatever the tops are, the super block counts
  counts : (ts : List Top) → CountsSuper s (from_tops K ts K.low) (record E { tops = ts })
  counts ts = record {
    same = record {
      some = record { versions = λ b is. is; labels = λ b is. is };
      memory = λ b ne. x.others b ne;
      versions = λ b v ne is. is;
      newborn = refl;
      late = refl;
      labels = refl;
      tops = refl;
      label = refl;
      low = refl;
      waits = refl;
      clears = refl;
      settled = h.epochs.safe.settled;
      wait = λ leaf on j is. let w = h.epochs.safe.waits leaf on j is in (w.1, w.2);
      clear = λ b j leaf is. let w = h.epochs.safe.clears b j leaf is in (w.1, w.2);
    };
    here = x.here;
    versions = λ v is. is;
    some = x.some;
    quiet = x.alone;
  }

  unclear : (b i leaf : ℕ) → IsClear K.clears b i leaf → ⊥
  unclear b i leaf is = let (k, among, e) = among_map (since_of holds) c.mind.clears is.clear is.among in x.settled.unclear k among

  set : (b : ℕ) → b ≢ 1 → IsSet K b
  set b ne = unmarked_set b h.beside.flags (x.settled.unmarked b ne) (x.settled.settled b) (unclear b)

  label_set : (b : ℕ) → IsLabelSet K b
  label_set b = label_known b h.beside.flags h.beside.label_flags (x.settled.unmarked (c.mind.label_block b) (x.labels b))

  begins : BeginsEpoch s root next first.high K (record E { tops = root_top (kept_root root first.high) ∷ K.tops })
  begins = record {
    counts = counts (root_top (kept_root root first.high) ∷ K.tops);
    was = h.memory 1 0 (λ e. h.begins.other (sym e)) ∙ h.begins.leads;
    now = λ i b e. same_block e (ap (λ j. target (s.slot j)) (x.names.only i b e) ∙ ap target x.names.leads);
    epoch = h.epoch;
    low = subst (λ n. n ≤ first.high) (sym h.low) h.begins.low;
    settled = λ b q ne st. (set b ne, label_set b);
    unclear = unclear;
  }

  -- each slot that may be there is memory's
  settled : (a i : ℕ) (v : Slot) → MaySlot E a i v → v ≡ (d.mind.memory a).slot i
  settled a i v m = ⊎_elim
      (λ one. subst (λ z. v ≡ (d.mind.memory z).slot i) (sym one) (here (subst (λ z. MaySlot E z i v) one m)))
      (λ ne. there ne m)
      (cases_eq a 1)
    where
      here : MaySlot E 1 i v → v ≡ (d.mind.memory 1).slot i
      here may = ⊎_elim
          (λ has. sym has.is ∙ ap (λ (y : Content). y.slot i) (x.alone has.content (subst (λ (cs : List Content). Contains cs has.content) (seen_is E 1 h.epochs.safe.settled) has.among) ∙ sym x.here))
          (λ r. ⊎_elim (λ is. is) (λ k. absurd (unclear 1 i k.0 k.1)) r)
          may

      there : a ≢ 1 → MaySlot E a i v → v ≡ (d.mind.memory a).slot i
      there ne may = ⊎_elim
          (λ has. sym has.is ∙ ((set a ne).versions has.content (subst (λ (cs : List Content). Contains cs has.content) (seen_is E a (x.settled.settled a)) has.among)).slots i ∙ ap (λ (y : Content). y.slot i) (sym (x.others a ne)))
          (λ r. ⊎_elim (λ is. is) (λ k. absurd (unclear a i k.0 k.1)) r)
          may

  root_other : root ≢ 1
  root_other = (h.begins.whole.made.all.epochs.supers.root (first.mind.memory 1) 0 root (first_among (first.mind.memory 1) ((known first.mind before).versions 1)) (ap target h.begins.leads)).0

  queue : BeginsQueue root next first.high (known first.mind before) E (division first none_made) first.queue
  queue = record {
    memory = λ a i one ne. ap (λ (y : Content). y.slot i) (x.others a one) ∙ h.memory a i ne;
    slots = λ i. ap (λ (y : Content). target (y.slot i)) (x.others next h.begins.other) ∙ h.leads.targets i;
    was = h.begins.leads;
    was_only = h.begins.only;
    now = ap (λ (y : Content). y.slot 0) x.here ∙ x.names.leads;
    now_only = λ i b e. x.names.only i b (ap (λ (y : Content). target (y.slot i)) (sym x.here) ∙ e);
    settled = λ a i v p st m. settled a i v m;
    one = record { path = []; leads = refl };
    others = (root_other, h.begins.other);
    unled = λ a i w e. unled h.begins.whole.made a i w e;
    fresh = h.begins.fresh;
    unmade = λ b none. none;
    label = λ b ne. h.label b ne;
    epoch = h.epoch;
    begun = h.begins.begun;
  }

  -- before the tops change and the epoch begins
  abbrev Mid : Kept
  Mid = record c { mind = record c.mind { memory = d.mind.memory }; flags = d.flags }

  mid_beside : HoldsBeside Mid f unsure holds
  mid_beside = counted_beside {s = s} {c = c} {d = Mid} (counts K.tops) (record {
    mind = refl;
    others = x.others;
    dirty = x.dirty;
    dirty_one = x.dirty_one;
    wrote = x.wrote;
    failed = x.failed;
    buffering = refl;
    held = x.held;
    times = refl;
    region = refl;
    promises = refl;
    space = refl;
    super = x.super;
    labels = x.labels;
  }) refl h.beside

  beside_now : HoldsBeside d f unsure holds
  beside_now = retopped {c = Mid} {d = d} (super_top ∷ map root_top Roots) x.mind refl (record {
    buffering = x.rest.buffering;
    times = x.rest.times;
    region = x.rest.region;
    room = x.rest.room;
  }) (record {
    dirty = λ b is_data on.
        let ne : b ≢ 1 = λ e. not_both is_data (ap (λ z. f.is_data z) e ∙ x.super) in
        absurd (not_both (sym (x.dirty b ne) ∙ on) (x.settled.unmarked b ne).clean);
  }) mid_beside

  snapshot : Snapshots s root next first c d f unsure before holds
  snapshot = record {
    active = h.begins.active;
    epochs = epochs_first h;
    mid = record E { tops = root_top (kept_root root first.high) ∷ K.tops };
    begins = begins;
    fewer = tops_fewer h;
    high_is = x.names.high_is;
    known_is = now_is;
    queue = subst (λ (k : Known). BeginsQueue root next first.high (known first.mind before) k (division first none_made) first.queue) (sym now_is) queue;
    beside = beside_now;
    high_now = x.high;
    active_now = x.active;
    roots_now = x.roots;
    doubts_now = x.doubts;
    past_now = x.past;
    queue_now = x.queue;
  }

  -- block 1 alone changed, which is waited for by nobody
  used : WaitsUsed d.mind.waits d.mind.memory
  used = awaited_still c d (ap (λ (m : Mind). m.waits) x.mind) (λ leaf on k is. ap (λ (y : Content). y.slot (2 * k)) (x.others on (h.epochs.safe.waits leaf on (2 * k) is).2)) h.awaited

  adds : AddsNothing (images c holds) (images d holds)
  adds = record {
    each = λ image r.
        let now : Remains E image = subst (λ (k : Known). Remains k image) now_is r in
        (counts_adds (counts K.tops)).each image (record { cells = now.cells; super = now.super });
  }

  pub counted_between : AddsNothing (images c holds) (images d holds) × HoldsWhole d f none_made no_origins unsure holds
  counted_between = (adds, snapshot_whole snapshot h.begins.nowhere (ap (λ (m : Mind). m.low) x.mind ∙ h.low) used h.begins.whole)
