-- What waits is closed.
use Rattle.std.proofs.Common.{◌≡◌, ◌≢◌, ◌⊎◌, inl, inr, ⊎_elim, ℕ, ◌<◌, ◌≤◌, Bool, true, false, List, [], ◌∷◌, ◌++◌, length, refl, sym, ◌∙◌, ap, subst, arith}
use Rattle.std.proofs.lemmas.Bool.{cases_eq}
use Rattle.std.specs.List.{Contains}
use Rattle.fo_disk.specs.Disk.{Block, versions_of, latest_of}
use Rattle.fo_disk.specs.Disk.{Content as Holds}
use Rattle.fo_image.specs.declared.types.Label.{Label}
use Rattle.fo_image.specs.declared.types.Pointer.TheVariants.{Local}
use Rattle.fo_crash.specs.Images.{Content, Image, Reaches, target, to_block}
use Rattle.fo_crash.specs.Steps.{AddsNothing}
use Rattle.fo_crash.proofs.Equal.{bool_cases}
use Rattle.fo_cells.specs.Known.{Top, Wait, IsWait}
use Rattle.fo_cells.specs.Safe.{KeepsSafe}
use Rattle.fo_cells.specs.Device.{Clearing, known}
use Rattle.fo_cells.proofs.Standing.{at_b, first_among, not_both}
use Rattle.fo_cells.proofs.SafeSteps.{close_safe}
use Rattle.fo_cells.proofs.Removing.{close_adds}
use Rattle.fo_cells.proofs.Super.{remains_nothing}
use Rattle.fo_cells_out.specs.Removals.{Pending, IsCovered}
use Rattle.fo_cells_out.specs.Parents.{Tree, Points, blocks_of, view}
use Rattle.fo_cells_out.specs.Origins.{Origins}
use Rattle.fo_cells_out.proofs.Queue.{among_left, among_right, among_either, nothing_among}
use Rattle.fo_cells_out.proofs.Dividing.{listed_one, covered_one}
use Rattle.fo_cells_out.proofs.Origins.{still_origins}
use Rattle.fo_cells_held.specs.Held.{MayGetVersion}
use Rattle.fo_cells_held.specs.Room.{Used}
use Rattle.fo_cells_held.proofs.Timed.{timed_change}
use Rattle.fo_cells_held.proofs.Room.{room_stays}
use Rattle.fo_cells_epochs.specs.Epochs.{Root, IsRead, HasEpochs}
use Rattle.fo_cells_epochs.proofs.TreeSteps.{close_trees}
use Rattle.fo_cells_epochs.proofs.Epochs.{by_trees, outside_memory}
use Rattle.fo_cells_queue.specs.Queue.{Queued, IsQueue, NewLabel, closed_at, first_past, past_blocks, uncovering}
use Rattle.fo_cells_queue.proofs.Seen.{seen_cases, seen_active}
use Rattle.fo_cells_queue.proofs.Closing.{Closes, past_closed, now_nowhere, now_uncovers, queue_closes, past_done, now_done, closed_relabels, closed_active, closed_held}
use Rattle.fo_cells_all.specs.All.{Kept, Format, HoldsBeside}
use Rattle.fo_cells_all.proofs.All.{beside, together}
use Rattle.fo_cells_steps.specs.Division.{SameTree, HoldsMade, division}
use Rattle.fo_cells_steps.specs.Calls.{SameEpoch, images}
use Rattle.fo_cells_steps.proofs.Same.{queue_same, origins_alike, origins_same}
use Rattle.fo_cells_steps.proofs.Still.{older_on, older_off, pointers_on, pointers_off}
use Rattle.fo_cells_blocks.specs.Closing.{ClosesBeside, ClosesNext}

-- WHAT IT DOES BESIDE
still_held : (h j : ℕ → Bool) → ((a : ℕ) → j a ≡ false → h a ≡ false) → (a : ℕ) → h a ≡ true → j a ≡ true
still_held h j back a on = ⊎_elim (λ yes. yes) (λ no. absurd (not_both on (back a no))) (bool_cases (j a))

pub closed_beside : {b epoch : ℕ} {c d : Kept} {f : Format} {x : Used} {unsure : List Bool} {holds : Holds} → ClosesBeside b epoch c d f x → (epoch ≤ c.high) ⊎ (epoch ≡ (c.mind.label b).epoch) → d.high ≡ c.high → d.mind.label b ≡ closed_at (c.mind.label b) epoch → ((a : ℕ) → a ≢ b → d.mind.label a ≡ c.mind.label a) → HoldsBeside c f unsure holds → HoldsBeside d f unsure holds
closed_beside {b} {epoch} {c} {d} {f} {x} {unsure} {holds} s le high here others h = record {
  flags = record {
    clean = λ a lt off. ap (λ (r : ℕ → Block → Content). r a (latest_of (versions_of holds a))) s.read ∙ h.flags.clean a lt (s.still a off) ∙ ap (λ (m : Image). m a) (sym s.memory);
    settled = λ a lt unwritten sound. h.flags.settled a lt (sym (s.wrote a) ∙ unwritten) (sym (s.failed a) ∙ sound);
    sure = λ a e. h.flags.sure a (sym (s.wrote a) ∙ e);
    some = h.flags.some;
  };
  label_flags = record {
    clean = λ t lt off.
        let block : d.mind.label_block t ≡ c.mind.label_block t = ap (λ (k : ℕ → ℕ). k t) s.labels.label_block in
        let l = s.label_dirty t (ap (λ y. d.flags.dirty y) (sym block) ∙ off) in
        ap (λ (k : ℕ → Block → Label). k t (latest_of (versions_of holds (d.mind.label_block t)))) s.labels.label_in
        ∙ ap (λ y. c.mind.label_in t (latest_of (versions_of holds y))) block
        ∙ h.label_flags.clean t (subst (λ y. y < length holds) block lt) l.0
        ∙ sym l.1;
  };
  fits = record {
    sure = λ a e. h.fits.sure a (at_b a (sym s.complete) ∙ e);
    within = λ a e. h.fits.within a (at_b a (sym s.complete) ∙ e);
    some = h.fits.some;
    leaves = λ k is. h.fits.leaves k (subst (λ (ks : List Clearing). Contains ks k) s.clears is);
  };
  buffers = record {
    unheld = λ a off.
        let y = s.held a off in
        let u = h.buffers.unheld a y.0 in (
          record {
            clean = y.1;
            unwritten = s.wrote a ∙ u.0.unwritten;
            sound = s.failed a ∙ u.0.sound;
          },
          at_b a s.newborn ∙ u.1,
        );
    complete = λ a e. s.wrote a ∙ h.buffers.complete a (at_b a (sym s.complete) ∙ e);
    waits = λ leaf on j is.
        let w = h.buffers.waits leaf on j (subst (λ (ws : List Wait). IsWait ws leaf on j) s.waits is) in
        (holding leaf w.0, holding on w.1);
    clears = λ k is. let w = h.buffers.clears k (subst (λ (ks : List Clearing). Contains ks k) s.clears is) in (holding k.at w.0, holding k.leaf w.1);
    clean = λ a bytes is.
        let w = s.clean a bytes is in
        (w.1, ap (λ (r : ℕ → Block → Content). r a bytes) s.read ∙ (h.buffers.clean a bytes w.0).1 ∙ ap (λ (m : Image). m a) (sym s.memory));
  };
  times = timed_change s.labels s.wrote h.times;
  dirty = record {
    dirty = λ a is_data on. ⊎_elim
        (λ was. version a (h.dirty.dirty a is_data was) on)
        (λ none. absurd (not_both is_data none))
        (s.dirty a on);
  };
  labels = s.region;
  room = room_stays s.spends s.uses h.room;
}
  where
    holding : (a : ℕ) → c.buffering.held a ≡ true → d.buffering.held a ≡ true
    holding a on = still_held c.buffering.held d.buffering.held (λ v off. (s.held v off).0) a on

    version : (a : ℕ) → MayGetVersion c.mind c.flags c.high a → d.flags.dirty a ≡ true → MayGetVersion d.mind d.flags d.high a
    version a was on = ⊎_elim
        (λ e.
        let l : d.mind.label a ≡ closed_at (c.mind.label a) epoch = subst (λ v. d.mind.label v ≡ closed_at (c.mind.label v) epoch) (sym e) here in
        let up : c.high ≤ (c.mind.label a).epoch = was.epoch in
        let low : (c.mind.label a).epoch ≤ epoch = subst (λ v. (c.mind.label v).epoch ≤ epoch) (sym e) s.begun in
        let same : epoch ≡ (c.mind.label a).epoch = ⊎_elim (λ few. omega (arith, up, low, few)) (λ own. own ∙ ap (λ v. (c.mind.label v).epoch) (sym e)) le in
        record {
          epoch = subst (λ (y : Label). d.high ≤ y.epoch) (sym l) (subst (λ n. n ≤ (c.mind.label a).epoch) (sym high) up);
          state = inr (ap (λ (y : Label). y.state) l, ap (λ (y : Label). y.closing) l ∙ same ∙ ap (λ (y : Label). y.epoch) (sym l), s.failed a ∙ ap (λ v. c.flags.failed v) e ∙ s.unknown (ap (λ v. d.flags.dirty v) (sym e) ∙ on));
        })
        (λ ne. record {
          epoch = subst (λ (y : Label). d.high ≤ y.epoch) (sym (others a ne)) (subst (λ n. n ≤ (c.mind.label a).epoch) (sym high) was.epoch);
          state = ⊎_elim
              (λ live. inl (ap (λ (y : Label). y.state) (others a ne) ∙ live))
              (λ q. inr (ap (λ (y : Label). y.state) (others a ne) ∙ q.0, ap (λ (y : Label). y.closing) (others a ne) ∙ q.1 ∙ ap (λ (y : Label). y.epoch) (sym (others a ne)), s.failed a ∙ q.2))
              was.state;
        })
        (cases_eq a b)

-- THE DIVISION stays, but for what waits
module _ {b epoch : ℕ} (c d : Kept) (Made : ℕ → Type 0) (holds : Holds) (before : List ℕ) (queue : List Pending) (l : NewLabel b (closed_at (c.mind.label b) epoch) (known c.mind holds) (known d.mind holds)) (e : SameEpoch c (record d { past = c.past })) (covered : past_blocks d.past ++ blocks_of d.queue ≡ before ++ blocks_of queue) (out : (division c Made).Within b ⊎ Made b → ⊥) where
  kept_label : (a : ℕ) → (division c Made).Within a ⊎ Made a → d.mind.label a ≡ c.mind.label a
  kept_label a is = l.others a (λ same. out (subst (λ v. (division c Made).Within v ⊎ Made v) same is))

  pub closed_same : SameTree (uncovering (division c Made) before queue) (division d Made)
  closed_same = record {
    within = λ a w. subst (λ (m : Image). Reaches m (to_block 1) a) (sym l.memory) w;
    within_back = λ a w. subst (λ (m : Image). Reaches m (to_block 1) a) l.memory w;
    made = λ a m. m;
    made_back = λ a m. m;
    covered = λ a is. subst (λ (xs : List ℕ). Contains xs a) (sym covered) (⊎_elim (λ x. among_left before (blocks_of queue) a x) (λ x. among_right before (blocks_of queue) a (listed_one queue a x)) is);
    covered_back = λ a is. ⊎_elim (λ x. inl x) (λ x. inr (covered_one queue a x)) (among_either before (blocks_of queue) a (subst (λ (xs : List ℕ). Contains xs a) covered is));
    older = λ a is q. older_on e Made Made a (kept_label a is) q;
    older_back = λ a is q. older_off e Made Made a (kept_label a is) q;
    pointers = λ a is q. pointers_on e Made Made a (kept_label a is) q;
    pointers_back = λ a is q. pointers_off e Made Made a (kept_label a is) q;
  }

-- ONE BLOCK IS CLOSED
module _ {b epoch after : ℕ} {c d : Kept} {f : Format} {x : Used} {Made : ℕ → Type 0} {h : Origins} {unsure : List Bool} {holds : Holds} (all : HoldsMade c f Made h unsure holds) (s : ClosesNext b epoch after c d holds) (k : ClosesBeside b epoch c d f x) (read : IsRead f.high_of) (le : (epoch ≤ c.high) ⊎ (epoch ≡ (c.mind.label b).epoch)) where
  abbrev T : Tree
  T = division c Made

  same_epoch : SameEpoch c (record d { past = c.past })
  same_epoch = record { high = s.high; doubts = s.doubts; roots = s.roots; past = refl }

  points_on_same : (a j z : ℕ) → Points (view (known c.mind holds) c.active) a j z → Points (view (known d.mind holds) d.active) a j z
  points_on_same a j z e = subst (λ (m : Image). target ((m a).slot j) ≡ Local z) (sym s.label.memory) e

  points_off_same : (a j z : ℕ) → Points (view (known d.mind holds) d.active) a j z → Points (view (known c.mind holds) c.active) a j z
  points_off_same a j z e = subst (λ (m : Image). target ((m a).slot j) ≡ Local z) s.label.memory e

  pub close_made : (past : List Queued) (queue : List Pending) → d.past ≡ past → d.queue ≡ queue → T.Covered b → Closes b epoch (known c.mind holds) (known d.mind holds) c.active c.roots → IsQueue (known d.mind holds) (uncovering T (past_blocks past) queue) c.high c.active c.roots past queue → AddsNothing (images c holds) (images d holds) × HoldsMade d f Made h unsure holds
  close_made past queue past_is queue_is covered closes q =
      let trees = all.all.epochs.trees in
      let r = closed_relabels trees closes in
      let kept : KeepsSafe (known c.mind holds) (known d.mind holds) c.high = close_safe r (outside_memory all.all.epochs.safe trees b (closed_active trees closes)) s.unclear in
      let e = by_trees kept (close_trees trees r (closed_active trees closes) (closed_held trees closes)) read all.all.epochs in
      let out : T.Within b ⊎ Made b → ⊥ = λ is. ⊎_elim (λ w. all.all.queue.now.tree.gone b covered w) (λ m. all.all.queue.now.forest.uncovered b m covered) is in
      let listed : past_blocks d.past ++ blocks_of d.queue ≡ past_blocks past ++ blocks_of queue = ap (λ (ps : List Queued). past_blocks ps ++ blocks_of d.queue) past_is ∙ ap (λ (qs : List Pending). past_blocks past ++ blocks_of qs) queue_is in
      let same = closed_same c d Made holds (past_blocks past) queue s.label same_epoch listed out in (
        remains_nothing (close_adds r) kept.supers,
        record {
          all = together
              (subst (λ n. HasEpochs (known d.mind holds) n f.high_of d.doubts d.active d.roots) (sym s.high) (subst (λ (ds : List Content). HasEpochs (known d.mind holds) c.high f.high_of ds d.active d.roots) (sym s.doubts) (subst (λ (ts : List Top). HasEpochs (known d.mind holds) c.high f.high_of c.doubts ts d.roots) (sym s.active) (subst (λ (rs : List Root). HasEpochs (known d.mind holds) c.high f.high_of c.doubts c.active rs) (sym s.roots) e))))
              (subst (λ n. IsQueue (known d.mind holds) (division d Made) n d.active d.roots d.past d.queue) (sym s.high) (subst (λ (ts : List Top). IsQueue (known d.mind holds) (division d Made) c.high ts d.roots d.past d.queue) (sym s.active) (subst (λ (rs : List Root). IsQueue (known d.mind holds) (division d Made) c.high c.active rs d.past d.queue) (sym s.roots) (subst (λ (ps : List Queued). IsQueue (known d.mind holds) (division d Made) c.high c.active c.roots ps d.queue) (sym past_is) (subst (λ (qs : List Pending). IsQueue (known d.mind holds) (division d Made) c.high c.active c.roots past qs) (sym queue_is) (queue_same same q))))))
              (closed_beside k le s.high s.label.here s.label.others (beside all.all));
          origins = origins_alike (view (known c.mind holds) c.active) (view (known d.mind holds) d.active) points_on_same points_off_same same (still_origins T (λ a. Contains (past_blocks past) a ⊎ IsCovered queue a) (record { slots = λ a j. refl; stands = λ z p st. st; may = λ a i z v m q_e. m; unwritten = λ a m u. u; tops = λ y is. is }) all.origins);
          tops = λ y is. all.tops y (subst (λ (ts : List Top). Contains ts y) s.active is);
          apart = λ a is. let y = all.apart a is in (y.0, subst (λ (ts : List Top). Contains ts y.0) (sym s.active) y.1, y.2);
        },
      )

pub earlier_made : {b epoch after : ℕ} {bs : List ℕ} {rs : List Queued} {c d : Kept} {f : Format} {x : Used} {Made : ℕ → Type 0} {h : Origins} {unsure : List Bool} {holds : Holds} → HoldsMade c f Made h unsure holds → ClosesNext b epoch after c d holds → ClosesBeside b epoch c d f x → IsRead f.high_of → c.past ≡ first_past epoch (b ∷ bs) after ∷ rs → d.past ≡ first_past epoch bs after ∷ rs → d.queue ≡ c.queue → AddsNothing (images c holds) (images d holds) × HoldsMade d f Made h unsure holds
earlier_made {b} {epoch} {after} {bs} {rs} {c} {d} {f} {x} {Made} {h} {unsure} {holds} all s k read was now queue =
    let q : IsQueue (known c.mind holds) (division c Made) c.high c.active c.roots (first_past epoch (b ∷ bs) after ∷ rs) c.queue = subst (λ (ps : List Queued). IsQueue (known c.mind holds) (division c Made) c.high c.active c.roots ps c.queue) was all.all.queue in
    let y = past_closed all.all.epochs.trees q s.set s.label in
    let early : epoch < c.high = q.before (first_past epoch (b ∷ bs) after) (first_among (first_past epoch (b ∷ bs) after) rs) in
    close_made all s k read (inl (omega (arith, early))) (first_past epoch bs after ∷ rs) c.queue now queue (q.now.covered b (inl (first_among b (bs ++ past_blocks rs)))) y.0 y.1

pub now_made : {b epoch after : ℕ} {bs : List ℕ} {rs : List Pending} {c d : Kept} {f : Format} {x : Used} {Made : ℕ → Type 0} {h : Origins} {unsure : List Bool} {holds : Holds} → HoldsMade c f Made h unsure holds → ClosesNext b epoch after c d holds → ClosesBeside b epoch c d f x → IsRead f.high_of → c.high ≤ epoch → (epoch ≤ c.high) ⊎ (epoch ≡ (c.mind.label b).epoch) → c.past ≡ [] → d.past ≡ [] → c.queue ≡ record { blocks = b ∷ bs; after = after } ∷ rs → d.queue ≡ record { blocks = bs; after = after } ∷ rs → AddsNothing (images c holds) (images d holds) × HoldsMade d f Made h unsure holds
now_made {b} {epoch} {after} {bs} {rs} {c} {d} {f} {x} {Made} {h} {unsure} {holds} all s k read up le past past_now was now =
    let q0 : IsQueue (known c.mind holds) (division c Made) c.high c.active c.roots [] c.queue = subst (λ (ps : List Queued). IsQueue (known c.mind holds) (division c Made) c.high c.active c.roots ps c.queue) past all.all.queue in
    let q : IsQueue (known c.mind holds) (division c Made) c.high c.active c.roots [] (record { blocks = b ∷ bs; after = after } ∷ rs) = subst (λ (qs : List Pending). IsQueue (known c.mind holds) (division c Made) c.high c.active c.roots [] qs) was q0 in
    let trees = all.all.epochs.trees in
    let closes : Closes b epoch (known c.mind holds) (known d.mind holds) c.active c.roots = record {
      label = s.label;
      begun = k.begun;
      nowhere = λ p st. ⊎_elim
          (λ a. now_nowhere trees q s.set p (seen_active (known c.mind holds) c.active c.roots c.high b p a))
          (λ y. let from = y.from in let lt = (trees.kept y.root y.among).1 in omega (arith, from, lt, up))
          (seen_cases (known c.mind holds) c.active c.roots epoch b p st);
    } in
    let covered : (division c Made).Covered b = q.now.covered b (inr (inl (first_among b bs))) in
    close_made all s k read le [] (record { blocks = bs; after = after } ∷ rs) past_now now covered closes (queue_closes trees closes (λ is. ⊎_elim
    (λ y. q.once.0 (⊎_elim (λ none. absurd (nothing_among b none)) (λ r. listed_one (record { blocks = bs; after = after } ∷ rs) b r) y))
    (λ m. q.now.forest.uncovered b m covered)
    is) (now_uncovers trees q s.set))

-- a removal with nothing left is gone
pub past_done_made : {epoch after : ℕ} {rs : List Queued} {c : Kept} {f : Format} {Made : ℕ → Type 0} {h : Origins} {unsure : List Bool} {holds : Holds} → c.past ≡ first_past epoch [] after ∷ rs → HoldsMade c f Made h unsure holds → HoldsMade (record c { past = rs }) f Made h unsure holds
past_done_made {epoch} {after} {rs} {c} {f} {Made} {h} {unsure} {holds} was all =
    let same : SameTree (division c Made) (division (record c { past = rs }) Made) = record {
      within = λ a w. w;
      within_back = λ a w. w;
      made = λ a m. m;
      made_back = λ a m. m;
      covered = λ a is. subst (λ (ps : List Queued). Contains (past_blocks ps ++ blocks_of c.queue) a) was is;
      covered_back = λ a is. subst (λ (ps : List Queued). Contains (past_blocks ps ++ blocks_of c.queue) a) (sym was) is;
      older = λ a is q. q;
      older_back = λ a is q. q;
      pointers = λ a is q. q;
      pointers_back = λ a is q. q;
    } in
    let q : IsQueue (known c.mind holds) (division c Made) c.high c.active c.roots (first_past epoch [] after ∷ rs) c.queue = subst (λ (ps : List Queued). IsQueue (known c.mind holds) (division c Made) c.high c.active c.roots ps c.queue) was all.all.queue in
    let b = beside all.all in record {
      all = together all.all.epochs (queue_same same (past_done q)) (record { flags = b.flags; label_flags = b.label_flags; fits = b.fits; buffers = b.buffers; times = b.times; dirty = b.dirty; labels = b.labels; room = b.room });
      origins = origins_same (view (known c.mind holds) c.active) same all.origins;
      tops = all.tops;
      apart = all.apart;
    }

pub done_made : {after : ℕ} {rs : List Pending} {c : Kept} {f : Format} {Made : ℕ → Type 0} {h : Origins} {unsure : List Bool} {holds : Holds} → c.past ≡ [] → c.queue ≡ record { blocks = []; after = after } ∷ rs → HoldsMade c f Made h unsure holds → HoldsMade (record c { queue = rs }) f Made h unsure holds
done_made {after} {rs} {c} {f} {Made} {h} {unsure} {holds} past was all =
    let same : SameTree (division c Made) (division (record c { queue = rs }) Made) = record {
      within = λ a w. w;
      within_back = λ a w. w;
      made = λ a m. m;
      made_back = λ a m. m;
      covered = λ a is. subst (λ (qs : List Pending). Contains (past_blocks c.past ++ blocks_of qs) a) was is;
      covered_back = λ a is. subst (λ (qs : List Pending). Contains (past_blocks c.past ++ blocks_of qs) a) (sym was) is;
      older = λ a is q. q;
      older_back = λ a is q. q;
      pointers = λ a is q. q;
      pointers_back = λ a is q. q;
    } in
    let q0 : IsQueue (known c.mind holds) (division c Made) c.high c.active c.roots [] c.queue = subst (λ (ps : List Queued). IsQueue (known c.mind holds) (division c Made) c.high c.active c.roots ps c.queue) past all.all.queue in
    let q : IsQueue (known c.mind holds) (division c Made) c.high c.active c.roots [] (record { blocks = []; after = after } ∷ rs) = subst (λ (qs : List Pending). IsQueue (known c.mind holds) (division c Made) c.high c.active c.roots [] qs) was q0 in
    let b = beside all.all in record {
      all = together all.all.epochs (queue_same same (subst (λ (ps : List Queued). IsQueue (known c.mind holds) (division c Made) c.high c.active c.roots ps rs) (sym past) (now_done q))) (record { flags = b.flags; label_flags = b.label_flags; fits = b.fits; buffers = b.buffers; times = b.times; dirty = b.dirty; labels = b.labels; room = b.room });
      origins = origins_same (view (known c.mind holds) c.active) same all.origins;
      tops = all.tops;
      apart = all.apart;
    }
