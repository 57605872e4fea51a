-- A snapshot that begins loses no block.
use Rattle.std.proofs.Common.{◌≡◌, ◌≢◌, ◌⊎◌, inl, inr, ⊎_elim, ℕ, suc, ◌<◌, Bool, false, List, [], ◌∷◌, ◌++◌, refl, sym, ◌∙◌, ap, subst, arith}
use Rattle.std.proofs.lemmas.Bool.{cases_eq}
use Rattle.std.proofs.lemmas.List.Elements.{Contains-append_cases}
use Rattle.std.specs.List.{Contains}
use Rattle.fo_disk.specs.Disk.{Content as Holds}
use Rattle.fo_image.specs.declared.types.Label.{Label}
use Rattle.fo_image.specs.Usable.{is_usable}
use Rattle.fo_crash.specs.declared.place.Place.{Place}
use Rattle.fo_crash.specs.Images.{Content, target, to_block}
use Rattle.fo_crash.specs.Places.{root_place, place_below}
use Rattle.fo_crash.proofs.Reach.{reaches_on}
use Rattle.fo_cells.specs.Known.{Known, Stands}
use Rattle.fo_cells.specs.Device.{known}
use Rattle.fo_cells.proofs.Standing.{stands_top, stands_below, among_cases, first_among, next_among}
use Rattle.fo_cells_out.specs.Removals.{Pending, IsCovered}
use Rattle.fo_cells_out.specs.Parents.{Tree, Points, blocks_of}
use Rattle.fo_cells_out.proofs.Queue.{among_left, among_right, among_either, nothing_among}
use Rattle.fo_cells_out.proofs.Takeout.{same_block}
use Rattle.fo_cells_out.proofs.Asked.{walk_keeps}
use Rattle.fo_cells_epochs.specs.Epochs.{Root, root_top, tree_of, kept_root}
use Rattle.fo_cells_epochs.proofs.Trees.{tree_stands}
use Rattle.fo_cells_queue.specs.Queue.{Queued, past_blocks}
use Rattle.fo_cells_snapshot.specs.of_cells_begin.Begin.{ended}
use Rattle.fo_cells_lost.specs.Lost.{IsLost, KeepsKept, AreShared, HangsIn}
use Rattle.fo_cells_lost.proofs.Lost.{tree_stays}
use Rattle.fo_cells_all.specs.All.{Kept, Format}
use Rattle.fo_cells_steps.specs.Division.{HoldsMade, division}
use Rattle.fo_cells_snapshot.specs.of_cells_turns.Opening.{none_made, no_origins}
use Rattle.fo_cells_snapshot.specs.Snapshot.{Snapshots}
use Rattle.fo_cells_snapshot.proofs.Snapshot.{begun_same}

-- the removals of the epoch that ended
ended_blocks : (high : ℕ) (queue : List Pending) (b : ℕ) → Contains (blocks_of queue) b → Contains (past_blocks (ended high queue)) b
ended_blocks high [] b is = is
ended_blocks high (r ∷ rs) b is = ⊎_elim (λ own. among_left r.blocks (past_blocks (ended high rs)) b own) (λ more. among_right r.blocks (past_blocks (ended high rs)) b (ended_blocks high rs b more)) (among_either r.blocks (blocks_of rs) b is)

past_both : (past rest : List Queued) (b : ℕ) → Contains (past_blocks past) b ⊎ Contains (past_blocks rest) b → Contains (past_blocks (past ++ rest)) b
past_both [] rest b is = ⊎_elim (λ none. absurd (nothing_among b none)) (λ r. r) is
past_both (r ∷ rs) rest b is = ⊎_elim
    (λ l. ⊎_elim
    (λ own. among_left r.pending.blocks (past_blocks (rs ++ rest)) b own)
    (λ more. among_right r.pending.blocks (past_blocks (rs ++ rest)) b (past_both rs rest b (inl more)))
    (among_either r.pending.blocks (past_blocks rs) b l))
    (λ x. among_right r.pending.blocks (past_blocks (rs ++ rest)) b (past_both rs rest b (inr x)))
    is

was_queued : (high : ℕ) (queue : List Pending) (r : Queued) (b : ℕ) → Contains (ended high queue) r → Contains r.pending.blocks b → IsCovered queue b × (r.epoch ≡ high)
was_queued high [] r b is own = absurd (nothing_among r is)
was_queued high (p ∷ ps) r b is own = ⊎_elim
    (λ e. (inl (subst (λ (y : Queued). Contains y.pending.blocks b) (sym e) own), ap (λ (y : Queued). y.epoch) (sym e)))
    (λ more. let x = was_queued high ps r b more own in (inr x.0, x.1))
    (among_cases (record { pending = p; epoch = high }) (ended high ps) r is)

module _ {s : Content} {root next : ℕ} {first c d : Kept} {f : Format} {unsure later : List Bool} {before holds : Holds} (x : Snapshots s root next first c d f later before holds) (nowhere : (q : Place) → Stands (known first.mind before) next q → ⊥) (low : d.mind.low ≡ first.mind.low) (all : HoldsMade first f none_made no_origins unsure before) where
  abbrev First : Known
  First = known first.mind before

  abbrev New : Known
  New = known d.mind holds

  abbrev T : Tree
  T = division first none_made

  abbrev R : Root
  R = kept_root root first.high

  kept : KeepsKept First New first.roots
  kept = record {
    slots = λ a i. ⊎_elim
        (λ one. inr (λ r p among st. (all.all.epochs.trees.late r a p among st).0 one))
        (λ ne. ⊎_elim
        (λ is. inr (λ r p among st. nowhere p (subst (λ v. Stands First v p) is (tree_stands all.all.epochs.trees r among a p st))))
        (λ far. inl (x.queue.memory a i ne far))
        (cases_eq a next))
        (cases_eq a 1);
  }

  stays : (r : Root) → Contains first.roots r → (b : ℕ) (q : Place) → Stands (tree_of First r) b q → Stands (tree_of New r) b q
  stays r among b q st = tree_stays all.all.epochs.safe all.all.epochs.trees kept r among b q st

  still_root : (r : Root) → Contains first.roots r → Contains d.roots r
  still_root r among = subst (λ (rs : List Root). Contains rs r) (sym x.roots_now) (next_among R r first.roots among)

  -- what hung in the tree hangs in that of the old root
  abbrev Hung : ℕ → Type 0
  Hung a = T.Within a × ((a ≡ 1) ⊎ ((q : Place) × Stands (tree_of New R) a q))

  step : (a j z : ℕ) → Hung a → Points First a j z → Hung z
  step a j z h e = (
    reaches_on j h.0 e,
    ⊎_elim
        (λ one.
        let led : Points First 1 j z = subst (λ v. Points First v j z) one e in
        let zero_is = x.queue.was_only j z led in
        let is : z ≡ root = same_block (subst (λ n. Points First 1 n z) zero_is led) (ap target x.queue.was) in
        inr (root_place, subst (λ v. Stands (tree_of New R) v root_place) (sym is) (stands_top (root_top R) (first_among (root_top R) []))))
        (λ ne. ⊎_elim
        (λ one. absurd (ne one))
        (λ st.
        let far : a ≢ next = λ is. x.queue.fresh.0 (subst (λ v. T.Within v) is h.0) in
        let now : Points New a j z = ap target (x.queue.memory a j ne far) ∙ e in
        inr (place_below st.0 j ((d.mind.memory a).slot j), stands_below j ((d.mind.memory a).slot j) z st.1 (inr (inl refl)) now))
        h.1)
        (cases_eq a 1),
  )

  hung : (b : ℕ) → T.Within b → b ≢ 1 → (q : Place) × Stands (tree_of New R) b q
  hung b w ne = ⊎_elim
      (λ one. absurd (ne one))
      (λ st. st)
      (walk_keeps first.mind.memory Hung step w.path (to_block 1) b (λ a e. let one : 1 ≡ a = cc in (record { path = []; leads = e }, inl (sym one))) w.leads).1

  -- the old root is a root that is kept
  old_kept : Contains d.roots R
  old_kept = subst (λ (rs : List Root). Contains rs R) (sym x.roots_now) (first_among R first.roots)

  pub snapshot_loses : (b : ℕ) → IsLost New (division d none_made) d.roots b → IsLost First T first.roots b
  snapshot_loses b l = record {
    taken =
        let ne : b ≢ next = λ e. l.outside.0 ((begun_same x all).within b (inr e)) in
        subst (λ n. is_usable n (first.mind.label b) ≡ false) low (subst (λ (y : Label). is_usable d.mind.low y ≡ false) (x.queue.label b ne) l.taken);
    outside = (
      λ w. ⊎_elim
          (λ e. l.outside.2 ((begun_same x all).covered b (inr (inl (subst (λ v. Contains (root ∷ []) v) (sym e) (first_among root []))))))
          (λ ne. l.outside.0 ((begun_same x all).within b (inl (w, ne))))
          (cases_eq b root),
      λ m. m,
      λ is. l.outside.2 ((begun_same x all).covered b (inl (past_both first.past (ended first.high first.queue) b (⊎_elim
          (λ old. inl old)
          (λ own. inr (ended_blocks first.high first.queue b own))
          (among_either (past_blocks first.past) (blocks_of first.queue) b is))))),
    );
    unkept = λ r q among st. l.unkept r q (still_root r among) (stays r among b q st);
  }

  pub snapshot_shares : AreShared First T first.high first.roots first.past first.queue → AreShared New (division d none_made) d.high d.roots d.past d.queue
  snapshot_shares shared = record {
    shared = λ b epoch ne hangs below above. each b epoch ne hangs below above;
  }
    where
      by_old : (b epoch : ℕ) → b ≢ 1 → b ≢ next → HangsIn T first.high first.past first.queue b epoch → (d.mind.label b).epoch < epoch → d.mind.low < epoch → (r : Root) × Contains d.roots r × (suc r.epoch ≡ epoch) × ((q : Place) × Stands (tree_of New r) b q)
      by_old b epoch ne far hangs below above =
          let y = shared.shared b epoch ne hangs (subst (λ (l : Label). l.epoch < epoch) (x.queue.label b far) below) (subst (λ n. n < epoch) low above) in
          (y.0, still_root y.0 y.1, y.2, ((y.3).0, stays y.0 y.1 b (y.3).0 (y.3).1))

      each : (b epoch : ℕ) → b ≢ 1 → HangsIn (division d none_made) d.high d.past d.queue b epoch → (d.mind.label b).epoch < epoch → d.mind.low < epoch → (r : Root) × Contains d.roots r × (suc r.epoch ≡ epoch) × ((q : Place) × Stands (tree_of New r) b q)
      each b epoch ne (HangsIn.within w is) below above = ⊎_elim
          (λ k. (R, old_kept, sym x.high_now ∙ sym is, hung b k.0 ne))
          (λ e.
          let now = x.queue.epoch in
          let at_next : (d.mind.label b).epoch ≡ (d.mind.label next).epoch = ap (λ v. (d.mind.label v).epoch) e in
          let high = x.high_now in
          let when : epoch ≡ d.high = is in
          absurd (omega (arith, below, now, at_next, high, when)))
          ((begun_same x all).within_back b w)
      each b epoch ne (HangsIn.earlier r in_past own is) below above = ⊎_elim
          (λ old. by_old b epoch ne (far b (inl (Rattle.fo_cells_queue.proofs.Seen.block_among first.past r b old own))) (HangsIn.earlier r old own is) below above)
          (λ new_past.
          let y = was_queued first.high first.queue r b new_past own in
          by_old b epoch ne (far b (inr y.0)) (HangsIn.active y.0 (is ∙ y.1)) below above)
          (Contains-append_cases first.past (ended first.high first.queue) r (subst (λ (ps : List Queued). Contains ps r) x.past_now in_past))
        where
          far : (b : ℕ) → Contains (past_blocks first.past) b ⊎ IsCovered first.queue b → b ≢ next
          far b is e = x.queue.fresh.1 (subst (λ v. T.Covered v) e (all.all.queue.now.covered b is))
      each b epoch ne (HangsIn.active cov is) below above =
          let root_is : b ≡ root = ⊎_elim (λ own. ⊎_elim (λ e. sym e) (λ none. absurd (nothing_among b none)) (among_cases root [] b own)) (λ none. absurd none) (subst (λ (qs : List Pending). IsCovered qs b) x.queue_now cov) in
          (R, old_kept, sym x.high_now ∙ sym is, (root_place, subst (λ v. Stands (tree_of New R) v root_place) (sym root_is) (stands_top (root_top R) (first_among (root_top R) []))))
