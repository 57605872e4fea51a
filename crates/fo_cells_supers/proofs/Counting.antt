-- A super block counts, a doubt is overruled, and the low epoch rises.
use Rattle.std.proofs.Common.{◌≡◌, ◌≢◌, inl, inr, ⊎_elim, ℕ, ◌<◌, ◌≤◌, ◌-◌, Bool, List, [], map, length, sym, ◌∙◌, ap, subst, arith}
use Rattle.std.proofs.lemmas.Bool.{cases_eq}
use Rattle.std.specs.List.{Contains}
use Rattle.fo_disk.specs.Disk.{Versions, versions_of, latest_of}
use Rattle.fo_disk.specs.Disk.{Content as Holds}
use Rattle.fo_image.specs.declared.types.Label.{Label}
use Rattle.fo_disk.proofs.Images.{contains-drop}
use Rattle.fo_crash.specs.Images.{Content, SameContent}
use Rattle.fo_crash.specs.Steps.{AddsNothing}
use Rattle.fo_cells.specs.Known.{Known, Top, Clear, IsWait, IsClear}
use Rattle.fo_cells.specs.Calls.{CountsSuper}
use Rattle.fo_cells.specs.Device.{Mind, known}
use Rattle.fo_cells.proofs.Calls.{map_among, newest_one}
use Rattle.fo_cells.proofs.Standing.{at_b, first_among, not_both}
use Rattle.fo_cells.proofs.Super.{counts_adds, may_counted, counts_stands}
use Rattle.fo_cells_out.specs.Parents.{Tree, Stays, view}
use Rattle.fo_cells_out.specs.Origins.{Origins}
use Rattle.fo_cells_held.specs.Held.{Buffering, Times}
use Rattle.fo_cells_held.specs.Room.{Promises, Space, HasRoom}
use Rattle.fo_cells_held.proofs.Room.{raised_none}
use Rattle.fo_cells_epochs.specs.Epochs.{Root, HasEpochs, RaisesLow}
use Rattle.fo_cells_epochs.proofs.TreeSteps.{counts_trees}
use Rattle.fo_cells_epochs.proofs.Epochs.{with_doubt, counts_epochs}
use Rattle.fo_cells_epochs.proofs.Snapshots.{raised_safe, raised_trees, raised_roots}
use Rattle.fo_cells_queue.proofs.Closing.{queue_raised}
use Rattle.fo_labels.specs.Region.{Region, IsDataBlock, label_of}
use Rattle.fo_cells_all.specs.All.{Kept, Format, HoldsBeside}
use Rattle.fo_cells_all.proofs.All.{beside, together}
use Rattle.fo_cells_steps.specs.Division.{HoldsMade, division}
use Rattle.fo_cells_steps.specs.Calls.{images}
use Rattle.fo_cells_steps.proofs.Taking.{itself}
use Rattle.fo_cells_steps.proofs.Same.{origins_alike}
use Rattle.fo_cells_supers.specs.Supers.{CountsOne, CountsBeside, raised}
use Rattle.fo_cells_supers.proofs.Supers.{super_made, one_slots}

latest_among : (vs : Versions) → 0 < length vs → Contains vs (latest_of vs)
latest_among vs some = contains-drop (length vs - 1) vs (latest_of vs) (subst (λ (ws : Versions). Contains ws (latest_of vs)) (sym (newest_one vs some)) (first_among (latest_of vs) []))

-- WHAT IT DOES BESIDE
pub counted_beside : {s : Content} {c d : Kept} {f : Format} {unsure : List Bool} {holds : Holds} → CountsSuper s (known c.mind holds) (known d.mind holds) → CountsBeside s c d f holds → d.high ≡ c.high → HoldsBeside c f unsure holds → HoldsBeside d f unsure holds
counted_beside {s} {c} {d} {f} {unsure} {holds} t k high h = record {
  flags = record {
    clean = λ b lt off. ⊎_elim
        (λ one.
        let among = map_among (c.mind.read b) (versions_of holds b) (latest_of (versions_of holds b)) (latest_among (versions_of holds b) (h.flags.some b lt)) in
        let is : c.mind.read b (latest_of (versions_of holds b)) ≡ s = t.quiet (c.mind.read b (latest_of (versions_of holds b))) (subst (λ v. Contains ((known c.mind holds).versions v) (c.mind.read b (latest_of (versions_of holds b)))) one among) in
        ap (λ (m : Mind). m.read b (latest_of (versions_of holds b))) k.mind ∙ is ∙ sym t.here ∙ ap (λ v. d.mind.memory v) (sym one))
        (λ ne. ap (λ (m : Mind). m.read b (latest_of (versions_of holds b))) k.mind ∙ h.flags.clean b lt (sym (k.dirty b ne) ∙ off) ∙ sym (k.others b ne))
        (cases_eq b 1);
    settled = λ b lt w x. h.flags.settled b lt (sym (k.wrote b) ∙ w) (sym (k.failed b) ∙ x);
    sure = λ b e. h.flags.sure b (sym (k.wrote b) ∙ e);
    some = h.flags.some;
  };
  label_flags = record {
    clean = λ b lt off.
        let block : d.mind.label_block b ≡ c.mind.label_block b = ap (λ (m : Mind). m.label_block b) k.mind in
        let ne : d.mind.label_block b ≢ 1 = λ e. k.labels b (sym block ∙ e) in
        ap (λ (m : Mind). m.label_in b (latest_of (versions_of holds (d.mind.label_block b)))) k.mind
        ∙ ap (λ v. c.mind.label_in b (latest_of (versions_of holds v))) block
        ∙ h.label_flags.clean b (subst (λ v. v < length holds) block lt) (ap (λ v. c.flags.dirty v) (sym block) ∙ sym (k.dirty (d.mind.label_block b) ne) ∙ off)
        ∙ ap (λ (m : Mind). m.label b) (sym k.mind);
  };
  fits = record {
    sure = λ b e. h.fits.sure b (ap (λ (m : Mind). m.complete b) (sym k.mind) ∙ e);
    within = λ b e. h.fits.within b (ap (λ (m : Mind). m.complete b) (sym k.mind) ∙ e);
    some = h.fits.some;
    leaves = λ x is. h.fits.leaves x (subst (λ (m : Mind). Contains m.clears x) k.mind is);
  };
  buffers = record {
    unheld = λ b off.
        let was = ap (λ (y : Buffering). y.held b) (sym k.buffering) ∙ off in
        let u = h.buffers.unheld b was in
        let ne : b ≢ 1 = λ e. not_both k.held (ap (λ v. c.buffering.held v) (sym e) ∙ was) in
        (record { clean = k.dirty b ne ∙ u.0.clean; unwritten = k.wrote b ∙ u.0.unwritten; sound = k.failed b ∙ u.0.sound }, ap (λ (m : Mind). m.newborn b) k.mind ∙ u.1);
    complete = λ b e. k.wrote b ∙ h.buffers.complete b (ap (λ (m : Mind). m.complete b) (sym k.mind) ∙ e);
    waits = λ leaf on j is. let w = h.buffers.waits leaf on j (subst (λ (m : Mind). IsWait m.waits leaf on j) k.mind is) in (ap (λ (y : Buffering). y.held leaf) k.buffering ∙ w.0, ap (λ (y : Buffering). y.held on) k.buffering ∙ w.1);
    clears = λ x is. let w = h.buffers.clears x (subst (λ (m : Mind). Contains m.clears x) k.mind is) in (ap (λ (y : Buffering). y.held x.at) k.buffering ∙ w.0, ap (λ (y : Buffering). y.held x.leaf) k.buffering ∙ w.1);
    clean = λ b bytes is.
        let w = h.buffers.clean b bytes (subst (λ (y : Buffering). Contains y.clean (b, bytes)) k.buffering is) in
        let ne : b ≢ 1 = λ e. not_both k.held (ap (λ v. c.buffering.held v) (sym e) ∙ w.0) in
        (ap (λ (y : Buffering). y.held b) k.buffering ∙ w.0, ap (λ (m : Mind). m.read b bytes) k.mind ∙ w.1 ∙ sym (k.others b ne));
  };
  times = record {
    set = λ b lt l is. h.times.set b (subst (λ (y : Times). y.changed b < y.settled (c.mind.label_block b)) k.times (subst (λ v. d.times.changed b < d.times.settled v) (block b) lt)) l (subst (λ (m : Mind). Contains (map (m.label_in b) (versions_of holds (m.label_block b))) l) k.mind is) ∙ ap (λ (m : Mind). m.label b) (sym k.mind);
    latest = λ b w lt.
        ap (λ (m : Mind). m.label_in b (latest_of (versions_of holds (m.label_block b)))) k.mind
        ∙ h.times.latest b (sym (k.wrote (c.mind.label_block b)) ∙ ap (λ v. d.flags.wrote v) (sym (block b)) ∙ w) (subst (λ (y : Times). y.changed b < y.wrote (c.mind.label_block b)) k.times (subst (λ v. d.times.changed b < d.times.wrote v) (block b) lt))
        ∙ ap (λ (m : Mind). m.label b) (sym k.mind);
    past = λ at. subst (λ (y : Times). (y.wrote at ≤ y.now) × (y.settled at ≤ y.now)) (sym k.times) (h.times.past at);
  };
  dirty = record {
    dirty = λ b is_data on.
        let ne : b ≢ 1 = λ e. not_both is_data (ap (λ v. f.is_data v) e ∙ k.super) in
        let was = h.dirty.dirty b is_data (sym (k.dirty b ne) ∙ on) in
        let label : d.mind.label b ≡ c.mind.label b = ap (λ (m : Mind). m.label b) k.mind in
        record {
          epoch = subst (λ (l : Label). d.high ≤ l.epoch) (sym label) (subst (λ n. n ≤ (c.mind.label b).epoch) (sym high) was.epoch);
          state = ⊎_elim
              (λ live. inl (ap (λ (l : Label). l.state) label ∙ live))
              (λ q. inr (ap (λ (l : Label). l.state) label ∙ q.0, ap (λ (l : Label). l.closing) label ∙ q.1 ∙ ap (λ (l : Label). l.epoch) (sym label), k.failed b ∙ q.2))
              was.state;
        };
  };
  labels = λ b is. ap (λ (m : Mind). m.label b) k.mind ∙ subst (λ (r : Region). c.mind.label b ≡ label_of r b) (sym k.region) (h.labels b (subst (λ (r : Region). IsDataBlock r b) k.region is));
  room = subst (λ (m : Mind). HasRoom m.low d.region d.promises d.space) (sym k.mind) (subst (λ (r : Region). HasRoom c.mind.low r d.promises d.space) (sym k.region) (subst (λ (p : Promises). HasRoom c.mind.low c.region p d.space) (sym k.promises) (subst (λ (y : Space). HasRoom c.mind.low c.region c.promises y) (sym k.space) h.room)));
}
  where
    block : (b : ℕ) → d.mind.label_block b ≡ c.mind.label_block b
    block b = ap (λ (m : Mind). m.label_block b) k.mind

-- IT COUNTS
pub counts_stays : {s : Content} {old new : Known} (t : Tree) → CountsSuper s old new → ((i : ℕ) → s.slot i ≡ (old.memory 1).slot i) → Stays old new t
counts_stays {s} {old} {new} t k same = record {
  slots = one_slots old.memory new.memory s k.same.memory (λ i. ap (λ (x : Content). x.slot i) k.here ∙ same i);
  stands = counts_stands k;
  may = λ a j b v m e. may_counted k a j v m;
  unwritten = λ a is m. record {
    newborn = at_b a k.same.newborn ∙ m.newborn;
    late = λ x y. m.late x (subst (λ (xs : List Content). Contains xs x) (at_b a k.same.late) y);
    clears = λ j leaf y. m.clears j leaf (subst (λ (cs : List Clear). IsClear cs a j leaf) k.same.clears y);
  };
  tops = λ y is. subst (λ (ts : List Top). Contains ts y) k.same.tops is;
}

pub counted_made : {s : Content} {c d : Kept} {f : Format} {Made : ℕ → Type 0} {h : Origins} {unsure : List Bool} {holds : Holds} → CountsOne s c d f holds → HoldsMade c f Made h unsure holds → AddsNothing (images c holds) (images d holds) × HoldsMade d f Made h unsure holds
counted_made {s} {c} {d} {f} {Made} {h} {unsure} {holds} t all =
    let stays = counts_stays (division c Made) t.counts t.slots in (
      counts_adds t.counts,
      super_made all t.same stays.slots (λ b. at_b b t.counts.same.label) stays (counts_trees all.all.epochs.trees t.counts)
          (subst (λ (ds : List Content). HasEpochs (known d.mind holds) c.high f.high_of ds c.active c.roots) (sym t.doubts) (counts_epochs t.counts t.high_is t.slots all.all.epochs))
          (counted_beside t.counts t.beside t.same.high (beside all.all)),
    )

-- A DOUBT IS OVERRULED
pub overruled_made : {c : Kept} {f : Format} {Made : ℕ → Type 0} {h : Origins} {unsure : List Bool} {holds : Holds} → ((s : Content) → Contains ((known c.mind holds).versions 1) s → SameContent s (c.mind.memory 1)) → HoldsMade c f Made h unsure holds → HoldsMade (record c { doubts = [] }) f Made h unsure holds
overruled_made {c} {f} {Made} {h} {unsure} {holds} quiet all =
    let e = all.all.epochs in
    let b = beside all.all in record {
      all = together
          (record { safe = with_doubt (record { versions = λ x v. inl (quiet x v) }) e.safe; trees = e.trees; supers = e.supers })
          all.all.queue
          (record { flags = b.flags; label_flags = b.label_flags; fits = b.fits; buffers = b.buffers; times = b.times; dirty = b.dirty; labels = b.labels; room = b.room });
      origins = all.origins;
      tops = all.tops;
      apart = all.apart;
    }

-- THE LOW EPOCH RISES
pub raised_made : {low : ℕ} {kept : List Root} {c : Kept} {f : Format} {Made : ℕ → Type 0} {h : Origins} {unsure : List Bool} {holds : Holds} → c.mind.low ≤ low → RaisesLow low c.roots kept → HoldsMade c f Made h unsure holds → AddsNothing (images c holds) (images (raised c low kept) holds) × HoldsMade (raised c low kept) f Made h unsure holds
raised_made {low} {kept} {c} {f} {Made} {h} {unsure} {holds} up x all =
    let e = all.all.epochs in
    let b = beside all.all in (
      record { each = λ image r. record { cells = r.cells; super = r.super } },
      record {
        all = together
            (record { safe = raised_safe e.trees x e.safe; trees = raised_trees e.trees x; supers = raised_roots e.trees x e.supers })
            (queue_raised x all.all.queue)
            (record {
              flags = record { clean = b.flags.clean; settled = b.flags.settled; sure = b.flags.sure; some = b.flags.some };
              label_flags = record { clean = b.label_flags.clean };
              fits = record { sure = b.fits.sure; within = b.fits.within; some = b.fits.some; leaves = b.fits.leaves };
              buffers = record { unheld = b.buffers.unheld; complete = b.buffers.complete; waits = b.buffers.waits; clears = b.buffers.clears; clean = b.buffers.clean };
              times = record { set = b.times.set; latest = b.times.latest; past = b.times.past };
              dirty = record { dirty = λ z is_data on. let y = b.dirty.dirty z is_data on in record { epoch = y.epoch; state = y.state } };
              labels = b.labels;
              room = record {
                usable = let less = raised_none c.mind.low low c.region up in let was = b.room.usable in omega (arith, less, was);
                buffers = b.room.buffers;
                queue = b.room.queue;
                waits = b.room.waits;
                clears = b.room.clears;
              };
            });
        origins = origins_alike (view (known c.mind holds) c.active) (view (known (raised c low kept).mind holds) c.active) (λ a j z q. q) (λ a j z q. q) (itself (division c Made)) all.origins;
        tops = all.tops;
        apart = all.apart;
      },
    )
