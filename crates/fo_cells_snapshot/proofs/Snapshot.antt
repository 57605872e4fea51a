-- A snapshot begins.
use Rattle.std.proofs.Common.{◌≡◌, ◌≢◌, ◌⊎◌, inl, inr, ⊎_elim, ℕ, suc, Bool, List, [], ◌∷◌, ◌++◌, refl, sym, ◌∙◌, ap, subst, arith}
use Rattle.std.proofs.lemmas.Bool.{cases_eq}
use Rattle.std.specs.List.{Contains}
use Rattle.fo_disk.specs.Disk.{Content as Holds}
use Rattle.fo_image.specs.declared.types.Label.{Label}
use Rattle.fo_crash.specs.Images.{Content, Reaches, target, to_block}
use Rattle.fo_crash.proofs.Sure.{same_if}
use Rattle.fo_crash.proofs.Reach.{reaches_on}
use Rattle.fo_cells.specs.Known.{Known, Top}
use Rattle.fo_cells.specs.Safe.{super_top}
use Rattle.fo_cells.specs.Device.{known}
use Rattle.fo_cells_out.specs.Removals.{Pending}
use Rattle.fo_cells_out.specs.Parents.{Tree, Points, IsTree, blocks_of, view}
use Rattle.fo_cells_out.proofs.Queue.{among_left, among_right, among_either}
use Rattle.fo_cells_out.proofs.Dividing.{listed_one, covered_one}
use Rattle.fo_cells_out.proofs.Takeout.{same_block}
use Rattle.fo_cells_out.proofs.Asked.{walk_keeps, nothing_made}
use Rattle.fo_cells_epochs.specs.Epochs.{Root, HasEpochs, kept_root}
use Rattle.fo_cells_epochs.proofs.Trees.{only_one}
use Rattle.fo_cells_epochs.proofs.Epochs.{with_doubt}
use Rattle.fo_cells_epochs.proofs.Snapshots.{begun_safe, begun_trees, begun_roots}
use Rattle.fo_cells_queue.specs.Queue.{Queued, IsQueue, past_blocks}
use Rattle.fo_cells_begin.specs.Begin.{BeginsQueue, ended, old_root, begun_tree}
use Rattle.fo_cells_begin.proofs.Begin.{begun_queue}
use Rattle.fo_cells_all.specs.All.{Kept, Format}
use Rattle.fo_cells_all.proofs.All.{together}
use Rattle.fo_cells_steps.specs.Division.{SameTree, HoldsMade, IsOfPointers, division}
use Rattle.fo_cells_steps.proofs.Same.{queue_same}
use Rattle.fo_cells_blocks.proofs.of_cells_puts.Linking.{reached_within}
use Rattle.fo_cells_turns.specs.Opening.{none_made, no_origins}
use Rattle.fo_cells_snapshot.specs.Snapshot.{Snapshots}

module _ {s : Content} {root next : ℕ} {first c d : Kept} {f : Format} {unsure later : List Bool} {before holds : Holds} (x : Snapshots s root next first c d f later before holds) (all : HoldsMade first f none_made no_origins unsure before) where
  abbrev First : Known
  First = known first.mind before

  abbrev New : Known
  New = known d.mind holds

  abbrev T : Tree
  T = division first none_made

  -- with the labels of now
  abbrev Labelled : Tree
  Labelled = record T { Pointers = λ z. IsOfPointers (d.mind.label z).kind }

  abbrev Roots : List Root
  Roots = kept_root root first.high ∷ first.roots

  abbrev Past : List Queued
  Past = first.past ++ ended first.high first.queue

  abbrev Begun : Tree
  Begun = begun_tree Labelled root next (past_blocks Past)

  other : (z : ℕ) → T.Within z → z ≢ next
  other z w e = x.queue.fresh.0 (subst (λ v. T.Within v) e w)

  same_label : (z : ℕ) → T.Within z ⊎ none_made z → d.mind.label z ≡ first.mind.label z
  same_label z is = ⊎_elim (λ w. x.queue.label z (other z w)) (λ none. absurd none) is

  relabelled : SameTree T Labelled
  relabelled = record {
    within = λ z w. w;
    within_back = λ z w. w;
    made = λ z m. m;
    made_back = λ z m. m;
    covered = λ z is. is;
    covered_back = λ z is. is;
    older = λ z is q. q;
    older_back = λ z is q. q;
    pointers = λ z is q. subst (λ (l : Label). IsOfPointers l.kind) (sym (same_label z is)) q;
    pointers_back = λ z is q. subst (λ (l : Label). IsOfPointers l.kind) (same_label z is) q;
  }

  begins : BeginsQueue root next first.high First New Labelled first.queue
  begins = record {
    memory = x.queue.memory;
    slots = x.queue.slots;
    was = x.queue.was;
    was_only = x.queue.was_only;
    now = x.queue.now;
    now_only = x.queue.now_only;
    settled = x.queue.settled;
    one = x.queue.one;
    others = x.queue.others;
    unled = x.queue.unled;
    fresh = x.queue.fresh;
    unmade = x.queue.unmade;
    label = x.queue.label;
    epoch = x.queue.epoch;
    begun = x.queue.begun;
  }

  epochs_first : HasEpochs First first.high f.high_of first.doubts (super_top ∷ []) first.roots
  epochs_first = subst (λ (ts : List Top). HasEpochs First first.high f.high_of first.doubts ts first.roots) x.active all.all.epochs

  queue_first : IsQueue First Labelled first.high (super_top ∷ []) first.roots first.past first.queue
  queue_first = subst (λ (ts : List Top). IsQueue First Labelled first.high ts first.roots first.past first.queue) x.active (queue_same relabelled all.all.queue)

  epochs_new : HasEpochs New (suc first.high) f.high_of [] (super_top ∷ []) Roots
  epochs_new = subst (λ (k : Known). HasEpochs k (suc first.high) f.high_of [] (super_top ∷ []) Roots) (sym x.known_is) (record {
    safe = with_doubt (record { versions = λ y v. inl (same_if (x.begins.counts.quiet y (x.begins.counts.versions y v) ∙ sym x.begins.counts.here)) }) (begun_safe x.begins x.epochs.safe x.epochs.trees x.epochs.supers x.fewer);
    trees = begun_trees x.begins x.epochs.safe x.epochs.trees x.epochs.supers x.fewer;
    supers = begun_roots x.begins x.epochs.safe x.epochs.trees x.epochs.supers x.fewer x.high_is;
  })

  queue_new : IsQueue New Begun (suc first.high) (super_top ∷ []) Roots Past (old_root root)
  queue_new = begun_queue begins epochs_first.safe epochs_first.trees epochs_new.trees queue_first

  new_tree : IsTree (view New (super_top ∷ [])) Begun
  new_tree = queue_new.now.tree

  -- what was reached is reached, but for the old root
  next_reached : Reaches d.mind.memory (to_block 1) next
  next_reached = record { path = 0 ∷ []; leads = ap target x.queue.now }

  abbrev Still : ℕ → Type 0
  Still a = T.Within a × (Reaches d.mind.memory (to_block 1) a ⊎ (a ≡ root))

  step : (a j z : ℕ) → Still a → Points First a j z → Still z
  step a j z q e = (
    reaches_on j q.0 e,
    ⊎_elim
        (λ r. ⊎_elim
        (λ one.
        let led : Points First 1 j z = subst (λ v. Points First v j z) one e in
        let zero_is = x.queue.was_only j z led in
        inr (same_block (subst (λ n. Points First 1 n z) zero_is led) (ap target x.queue.was)))
        (λ ne. inl (reaches_on j r (ap target (x.queue.memory a j ne (other a q.0)) ∙ e)))
        (cases_eq a 1))
        (λ is. inl (reaches_on j next_reached (x.queue.slots j ∙ subst (λ v. Points First v j z) is e)))
        q.1,
  )

  reached : (a : ℕ) → T.Within a → a ≢ root → Reaches d.mind.memory (to_block 1) a
  reached a w ne = ⊎_elim
      (λ r. r)
      (λ is. absurd (ne is))
      (walk_keeps first.mind.memory Still step w.path (to_block 1) a (λ z e. let one : 1 ≡ z = cc in (record { path = []; leads = e }, inl (record { path = []; leads = e }))) w.leads).1

  listed : past_blocks d.past ++ blocks_of d.queue ≡ past_blocks Past ++ blocks_of (old_root root)
  listed = ap (λ (ps : List Queued). past_blocks ps ++ blocks_of d.queue) x.past_now ∙ ap (λ (qs : List Pending). past_blocks Past ++ blocks_of qs) x.queue_now

  pub begun_same : SameTree Begun (division d none_made)
  begun_same = record {
    within = λ a w. ⊎_elim (λ k. reached a k.0 k.1) (λ e. subst (λ v. Reaches d.mind.memory (to_block 1) v) (sym e) next_reached) w;
    within_back = λ a w. reached_within Begun (λ v j z e. e) new_tree (inl (record { path = []; leads = refl }, λ e. x.queue.others.0 (sym e))) a w;
    made = λ a m. m;
    made_back = λ a m. m;
    covered = λ a is. subst (λ (l : List ℕ). Contains l a) (sym listed) (⊎_elim (λ l. among_left (past_blocks Past) (blocks_of (old_root root)) a l) (λ r. among_right (past_blocks Past) (blocks_of (old_root root)) a (listed_one (old_root root) a r)) is);
    covered_back = λ a is. ⊎_elim (λ l. inl l) (λ r. inr (covered_one (old_root root) a r)) (among_either (past_blocks Past) (blocks_of (old_root root)) a (subst (λ (l : List ℕ). Contains l a) listed is));
    older = λ a is q.
        let live = epochs_first.safe.live a q.1 q.0 in
        let label = x.queue.label a (other a q.0) in
        let le = live.1 in
        let high = x.high_now in
        let same_epoch : (d.mind.label a).epoch ≡ (first.mind.label a).epoch = ap (λ (l : Label). l.epoch) label in
        (q.1, ap (λ (l : Label). l.state) label ∙ live.0, omega (arith, le, high, same_epoch));
    older_back = λ a is q. ⊎_elim
        (λ w. ⊎_elim
        (λ k. (k.0, q.0, k.1))
        (λ e.
        let lt = q.2 in
        let high = x.high_now in
        let now = x.queue.epoch in
        let at_next : (d.mind.label a).epoch ≡ (d.mind.label next).epoch = ap (λ v. (d.mind.label v).epoch) e in
        absurd (omega (arith, lt, high, now, at_next)))
        w)
        (λ none. absurd none)
        is;
    pointers = λ a is q. q;
    pointers_back = λ a is q. q;
  }

  pub snapshot_made : HoldsMade d f none_made no_origins later holds
  snapshot_made = record {
    all = together
        (subst (λ n. HasEpochs New n f.high_of d.doubts d.active d.roots) (sym x.high_now) (subst (λ (ds : List Content). HasEpochs New (suc first.high) f.high_of ds d.active d.roots) (sym x.doubts_now) (subst (λ (ts : List Top). HasEpochs New (suc first.high) f.high_of [] ts d.roots) (sym x.active_now) (subst (λ (rs : List Root). HasEpochs New (suc first.high) f.high_of [] (super_top ∷ []) rs) (sym x.roots_now) epochs_new))))
        (subst (λ n. IsQueue New (division d none_made) n d.active d.roots d.past d.queue) (sym x.high_now) (subst (λ (ts : List Top). IsQueue New (division d none_made) (suc first.high) ts d.roots d.past d.queue) (sym x.active_now) (subst (λ (rs : List Root). IsQueue New (division d none_made) (suc first.high) (super_top ∷ []) rs d.past d.queue) (sym x.roots_now) (subst (λ (ps : List Queued). IsQueue New (division d none_made) (suc first.high) (super_top ∷ []) Roots ps d.queue) (sym x.past_now) (subst (λ (qs : List Pending). IsQueue New (division d none_made) (suc first.high) (super_top ∷ []) Roots Past qs) (sym x.queue_now) (queue_same begun_same queue_new))))))
        x.beside;
    origins = nothing_made (view New d.active) (division d none_made) (λ a m. m);
    tops = λ y is. inl (ap (λ (z : Top). z.at) (sym (only_one super_top y (subst (λ (ts : List Top). Contains ts y) x.active_now is))));
    apart = λ b none. absurd none;
  }
