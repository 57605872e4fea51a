-- Steps after which each slot of memory is as it was.
use Rattle.std.proofs.Common.{◌≡◌, ◌≢◌, ◌⊎◌, ℕ, ◌<◌, Bool, List, ◌++◌, sym, ◌∙◌, ap, subst, arith}
use Rattle.std.specs.List.{Contains}
use Rattle.fo_disk.specs.Disk.{Content as Holds}
use Rattle.fo_image.specs.declared.types.Label.{Label}
use Rattle.fo_crash.specs.Images.{Content, target, to_block}
use Rattle.fo_crash.specs.Steps.{AddsNothing, AddsSlot, AddsBytes, cleared}
use Rattle.fo_crash.specs.Names.{SameUse}
use Rattle.fo_crash.proofs.Reach.{same_walk}
use Rattle.fo_cells.specs.Known.{Known, Top, IsWait, IsClear}
use Rattle.fo_cells.specs.Writes.{Ends}
use Rattle.fo_cells.specs.Calls.{PutsInto, Awaits, WaitsMore}
use Rattle.fo_cells.specs.Safe.{IsCurrent, KeepsSafe, MayWait, MayClear}
use Rattle.fo_cells.specs.Laws.{NoWait}
use Rattle.fo_cells.specs.Device.{known}
use Rattle.fo_cells.proofs.Standing.{at_b, not_both}
use Rattle.fo_cells.proofs.SafeSteps.{bytes_safe, await_safe, more_safe, end_safe}
use Rattle.fo_cells.proofs.Bytes.{bytes_adds}
use Rattle.fo_cells.proofs.Waiting.{await_adds, more_adds}
use Rattle.fo_cells.proofs.Settling.{end_adds}
use Rattle.fo_cells.proofs.Super.{remains_nothing, remains_slot, remains_bytes}
use Rattle.fo_cells_out.specs.Removals.{Pending}
use Rattle.fo_cells_out.specs.Parents.{Tree, Stays, blocks_of, view}
use Rattle.fo_cells_out.specs.Origins.{Origins}
use Rattle.fo_cells_out.proofs.Steps.{bytes_stays, more_stays, await_stays, end_stays}
use Rattle.fo_cells_out.proofs.Origins.{still_origins}
use Rattle.fo_cells_all.specs.of_cells_held.Room.{Used}
use Rattle.fo_cells_all.specs.of_cells_epochs.Epochs.{Root, HasEpochs, KeepsTrees}
use Rattle.fo_cells_all.proofs.of_cells_epochs.Epochs.{by_trees}
use Rattle.fo_cells_all.proofs.of_cells_epochs.TreeSteps.{bytes_trees, more_trees, await_trees, end_trees}
use Rattle.fo_cells_all.specs.of_cells_queue.Queue.{Queued, IsQueue, past_blocks}
use Rattle.fo_cells_all.proofs.of_cells_queue.Queue.{queue_still, stays_view}
use Rattle.fo_cells_all.specs.All.{Kept, Format}
use Rattle.fo_cells_all.proofs.All.{beside, beside_step, together}
use Rattle.fo_cells_steps.specs.Division.{SameTree, HoldsMade, division}
use Rattle.fo_cells_steps.specs.Calls.{SameEpoch, SameRest, Beside, images}
use Rattle.fo_cells_steps.proofs.Same.{queue_same, origins_same}

-- what is said of the epoch is said of the same one
pub epochs_rest : {c d : Kept} {k : Known} (f : Format) → SameEpoch c d → HasEpochs k c.high f.high_of c.doubts d.active c.roots → HasEpochs k d.high f.high_of d.doubts d.active d.roots
epochs_rest {c} {d} {k} f e h =
    subst (λ n. HasEpochs k n f.high_of d.doubts d.active d.roots) (sym e.high)
    (subst (λ (ds : List Content). HasEpochs k c.high f.high_of ds d.active d.roots) (sym e.doubts)
    (subst (λ (rs : List Root). HasEpochs k c.high f.high_of c.doubts d.active rs) (sym e.roots) h))

pub queue_rest : {c d : Kept} {k : Known} {t : Tree} → SameEpoch c d → IsQueue k t c.high d.active c.roots c.past d.queue → IsQueue k t d.high d.active d.roots d.past d.queue
queue_rest {c} {d} {k} {t} e h =
    subst (λ n. IsQueue k t n d.active d.roots d.past d.queue) (sym e.high)
    (subst (λ (rs : List Root). IsQueue k t c.high d.active rs d.past d.queue) (sym e.roots)
    (subst (λ (ps : List Queued). IsQueue k t c.high d.active c.roots ps d.queue) (sym e.past) h))

-- older and of pointers, where the label is the same
module _ {c d : Kept} (e : SameEpoch c d) (Made After : ℕ → Type 0) (b : ℕ) (label : d.mind.label b ≡ c.mind.label b) where
  pub older_on : (division c Made).Older b → (division d After).Older b
  older_on q = (q.0, ap (λ (l : Label). l.state) label ∙ q.1, subst (λ n. (d.mind.label b).epoch < n) (sym e.high) (subst (λ (l : Label). l.epoch < c.high) (sym label) q.2))

  pub older_off : (division d After).Older b → (division c Made).Older b
  older_off q = (q.0, ap (λ (l : Label). l.state) (sym label) ∙ q.1, subst (λ (l : Label). l.epoch < c.high) label (subst (λ n. (d.mind.label b).epoch < n) e.high q.2))

  pub pointers_on : (division c Made).Pointers b → (division d After).Pointers b
  pointers_on q = subst (λ (l : Label). Rattle.fo_cells_steps.specs.Division.IsOfPointers l.kind) (sym label) q

  pub pointers_off : (division d After).Pointers b → (division c Made).Pointers b
  pointers_off q = subst (λ (l : Label). Rattle.fo_cells_steps.specs.Division.IsOfPointers l.kind) label q

-- the same slots, labels and removals make the same division
pub division_same : {c d : Kept} (Made : ℕ → Type 0) → SameRest c d → ((a i : ℕ) → (d.mind.memory a).slot i ≡ (c.mind.memory a).slot i) → ((b : ℕ) → d.mind.label b ≡ c.mind.label b) → SameTree (division c Made) (division d Made)
division_same {c} {d} Made r slots labels = record {
  within = λ b w. record { path = w.path; leads = ap target (same_walk d.mind.memory c.mind.memory slots w.path (to_block 1)) ∙ w.leads };
  within_back = λ b w. record { path = w.path; leads = ap target (same_walk c.mind.memory d.mind.memory (λ a i. sym (slots a i)) w.path (to_block 1)) ∙ w.leads };
  made = λ b m. m;
  made_back = λ b m. m;
  covered = λ b x. subst (λ (l : List ℕ). Contains l b) (sym listed) x;
  covered_back = λ b x. subst (λ (l : List ℕ). Contains l b) listed x;
  older = λ b is q. older_on r.epoch Made Made b (labels b) q;
  older_back = λ b is q. older_off r.epoch Made Made b (labels b) q;
  pointers = λ b is q. pointers_on r.epoch Made Made b (labels b) q;
  pointers_back = λ b is q. pointers_off r.epoch Made Made b (labels b) q;
}
  where
    listed : past_blocks d.past ++ blocks_of d.queue ≡ past_blocks c.past ++ blocks_of c.queue
    listed = ap (λ (ps : List Queued). past_blocks ps ++ blocks_of d.queue) r.epoch.past ∙ ap (λ (qs : List Pending). past_blocks c.past ++ blocks_of qs) r.queue

-- A STEP THAT ONLY TAKES AWAY keeps the whole.
module _ {c d : Kept} {f : Format} {x : Used} {Made : ℕ → Type 0} {h : Origins} {unsure : List Bool} {holds : Holds} (r : SameRest c d) (b : Beside c d f x holds) (all : HoldsMade c f Made h unsure holds) where
  abbrev Old : Known
  Old = known c.mind holds

  abbrev New : Known
  New = known d.mind holds

  abbrev T : Tree
  T = division c Made

  pub still_made : KeepsSafe Old New c.high → KeepsTrees Old New c.active c.active c.roots → Stays Old New T → ((a : ℕ) → d.mind.label a ≡ c.mind.label a) → HoldsMade d f Made h unsure holds
  still_made safe trees stays labels =
      let s = division_same Made r stays.slots labels in
      let q = queue_same s (queue_still stays trees (λ a is. labels a) all.all.queue) in
      let e = by_trees safe trees b.read all.all.epochs in
      record {
        all = together
            (epochs_rest f r.epoch (subst (λ (ts : List Top). HasEpochs New c.high f.high_of c.doubts ts c.roots) (sym r.active) e))
            (queue_rest r.epoch (subst (λ (ts : List Top). IsQueue New (division d Made) c.high ts c.roots c.past d.queue) (sym r.active) (subst (λ (qs : List Pending). IsQueue New (division d Made) c.high c.active c.roots c.past qs) (sym r.queue) q)))
            (beside_step b.steps (beside all.all));
        origins = origins_same (view New d.active) s (still_origins T T.Covered (subst (λ (ts : List Top). Stays (view Old c.active) (view New ts) T) (sym r.active) (stays_view stays trees)) all.origins);
        tops = λ y is. all.tops y (subst (λ (ts : List Top). Contains ts y) r.active is);
        apart = λ a is. let y = all.apart a is in (y.0, subst (λ (ts : List Top). Contains ts y.0) (sym r.active) y.1, y.2);
      }

  current : {at : ℕ} → (c.mind.label at).epoch ≡ c.high → IsCurrent Old c.high at
  current {at} e = record { young = λ p ne st lt. let same : (c.mind.label at).epoch ≡ c.high = e in omega (arith, same, lt) }

  pub bytes_made : {at : ℕ} {bytes : List ℕ} → PutsInto at bytes Old New → at ≢ 1 → (c.mind.label at).epoch ≡ c.high → AddsBytes c.mind.memory at ((d.mind.memory at).bytes) (λ image. (on j : ℕ) → IsWait c.mind.waits at on j → ((leaf : ℕ) → IsClear Old.clears on j leaf → ⊥) → SameUse ((image on).slot j) ((c.mind.memory on).slot j)) (images c holds) (images d holds) × HoldsMade d f Made h unsure holds
  bytes_made u other epoch =
      let k = bytes_safe u (current epoch) other in
      (remains_bytes other (bytes_adds u) k.supers, still_made k (bytes_trees all.all.epochs.trees u) (bytes_stays T u) (λ a. at_b a u.label))

  pub more_made : WaitsMore Old New → ((leaf on j : ℕ) → IsWait d.mind.waits leaf on j → IsWait c.mind.waits leaf on j ⊎ MayWait Old leaf on) → AddsNothing (images c holds) (images d holds) × HoldsMade d f Made h unsure holds
  more_made w waits =
      let k = more_safe w waits in
      (remains_nothing (more_adds w) k.supers, still_made k (more_trees all.all.epochs.trees w) (more_stays T w) (λ a. at_b a w.same.label))

  -- a made block is newborn
  pub await_made : {at i leaf : ℕ} → Awaits at i leaf Old New → MayClear Old c.high at leaf → AddsSlot c.mind.memory at i (cleared ((c.mind.memory at).slot i)) (λ image. (image leaf).bytes ≡ (c.mind.memory leaf).bytes) (images c holds) (images d holds) × HoldsMade d f Made h unsure holds
  await_made {at} w may =
      let k = await_safe w may in
      (remains_slot may.1 (await_adds w) k.supers, still_made k (await_trees all.all.epochs.trees w) (await_stays T w (λ m. not_both (all.all.queue.now.parents.unwritten at m).newborn may.0)) (λ a. at_b a w.same.label))

  pub end_made : Ends Old New → NoWait Old New → AddsNothing (images c holds) (images d holds) × HoldsMade d f Made h unsure holds
  end_made w waits =
      let k = end_safe w waits in
      (remains_nothing (end_adds w) k.supers, still_made k (end_trees all.all.epochs.trees w) (end_stays T w) (λ a. at_b a w.same.label))
