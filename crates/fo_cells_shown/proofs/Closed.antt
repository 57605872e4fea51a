-- What was closed and may not be given out yet, and what a low epoch that rises loses.
use Rattle.std.proofs.Common.{◌≡◌, ◌≢◌, ◌⊎◌, inl, inr, ⊎_elim, ℕ, suc, ◌<◌, ◌≤◌, Bool, true, false, ◌||◌, eqb, leb, List, refl, sym, ◌∙◌, ap, subst, arith}
use Rattle.std.proofs.lemmas.Bool.{cases_eq, leb-false}
use Rattle.std.proofs.lemmas.Bool.Decides.{nat_tests}
use Rattle.std.specs.List.{Contains}
use Rattle.fo_image.specs.declared.types.Label.{Label}
use Rattle.fo_image.specs.declared.types.State.{State}
use Rattle.fo_image.specs.declared.types.State.TheVariants.{Free, Live, Closed}
use Rattle.fo_image.specs.Usable.{is_usable, is_usable_in}
use Rattle.fo_crash.specs.declared.place.Place.{Place}
use Rattle.fo_crash.specs.Images.{Content}
use Rattle.fo_cells.specs.Known.{Known, Top, Stands}
use Rattle.fo_cells.specs.Writes.{Gives}
use Rattle.fo_cells.specs.Safe.{IsSafe}
use Rattle.fo_cells.proofs.Standing.{stands_by, stands_top, stands_below}
use Rattle.fo_cells_out.specs.Removals.{Pending}
use Rattle.fo_cells_out.specs.Parents.{Tree}
use Rattle.fo_cells_out.specs.Origins.{Decided}
use Rattle.fo_cells_epochs.specs.Epochs.{Root, HasTrees, KeepsTrees, tree_of}
use Rattle.fo_cells_epochs.proofs.Trees.{tree_still}
use Rattle.fo_cells_queue.specs.Queue.{Queued, closed_at}
use Rattle.fo_cells_lost.specs.Lost.{IsLost, KeepsKept, MovesOnly, AreShared, ClosesOne}
use Rattle.fo_cells_lost.proofs.Lost.{tree_stays, given_kept, label_kept}
use Rattle.fo_cells_shown.specs.Closed.{IsKeptBy, ClosedAreKept, IsStray, KeepsFrom, raised}

-- ---- labels

both_off : (x y : Bool) → (x || y) ≡ false → (x ≡ false) × (y ≡ false)
both_off true y e = absurd (cc)
both_off false y e = (refl, e)

-- of a closed label that may not be given out: it was not closed in its own epoch, and the low epoch is below
closed_late : (low : ℕ) (l : Label) → l.state ≡ Closed → is_usable low l ≡ false → (eqb l.closing l.epoch ≡ false) × (low < l.closing)
closed_late low l is taken =
    let off = both_off (eqb l.closing l.epoch) (leb l.closing low) (subst (λ s. is_usable_in s low l ≡ false) is taken) in
    (off.0, leb-false l.closing low off.1)

-- what may not be given out at a low epoch may not at an earlier one
taken_before : (before low : ℕ) (l : Label) → before ≤ low → is_usable low l ≡ false → is_usable before l ≡ false
taken_before before low l le taken = by l.state refl
  where
    late : (closing begun : ℕ) → (eqb closing begun || leb closing low) ≡ false → (eqb closing begun || leb closing before) ≡ false
    late closing begun e = grind (arith, nat_tests, e, le)

    by : (s : State) → l.state ≡ s → is_usable_in s before l ≡ false
    by Free is = let x : true ≡ false = subst (λ s. is_usable_in s low l ≡ false) is taken in absurd (cc)
    by Live is = refl
    by Closed is = late l.closing l.epoch (subst (λ s. is_usable_in s low l ≡ false) is taken)

live_closed : (l : Label) → l.state ≡ Live → l.state ≡ Closed → ⊥
live_closed l a b = let x : Live ≡ Closed = sym a ∙ b in absurd (cc)

-- ---- what is closed stays in its kept tree

module _ {old new : Known} {high : ℕ} {doubt : Content → Type 0} {active : List Top} {roots : List Root} (safe : IsSafe old high doubt) (trees : HasTrees old high active roots) where
  pub move_closed : {after : List Root} → KeepsKept old new roots → ((r : Root) → Contains roots r → Contains after r) → new.low ≡ old.low → new.label ≡ old.label → ClosedAreKept old roots → ClosedAreKept new after
  move_closed kept within low label h = record {
    closed = λ b ne is taken.
        let was = subst (λ (f : ℕ → Label). (f b).state ≡ Closed) label is in
        let was_taken = subst (λ n. is_usable n (old.label b) ≡ false) low (subst (λ (f : ℕ → Label). is_usable new.low (f b) ≡ false) label taken) in
        let x = h.closed b ne was was_taken in
        (x.0, within x.0 x.1, x.2 ∙ sym (ap (λ (f : ℕ → Label). (f b).closing) label), ((x.3).0, tree_stays safe trees kept x.0 x.1 b (x.3).0 (x.3).1));
  }

  pub give_closed : {at : ℕ} {c : Content} {p : Place} → Gives at c p old new → (new.label at).state ≡ Live → ClosedAreKept old roots → ClosedAreKept new roots
  give_closed {at} g live h = record {
    closed = λ b ne is taken. ⊎_elim
        (λ e. absurd (live_closed (new.label b) (subst (λ x. (new.label x).state ≡ Live) (sym e) live) is))
        (λ far.
        let was = subst (λ (l : Label). l.state ≡ Closed) (g.label b far) is in
        let was_taken = subst (λ n. is_usable n (old.label b) ≡ false) g.low (subst (λ (l : Label). is_usable new.low l ≡ false) (g.label b far) taken) in
        let x = h.closed b ne was was_taken in
        (x.0, x.1, x.2 ∙ sym (ap (λ (l : Label). l.closing) (g.label b far)), ((x.3).0, tree_stays safe trees (given_kept g trees) x.0 x.1 b (x.3).0 (x.3).1)))
        (cases_eq b at);
  }

  pub close_closed : {b epoch : ℕ} {t u : Tree} {past : List Queued} {queue : List Pending} → ClosesOne b epoch old new t u high past queue → AreShared old t high roots past queue → ClosedAreKept old roots → ClosedAreKept new roots
  close_closed {b} {epoch} c shared h = record {
    closed = λ a ne is taken. ⊎_elim
        (λ e. subst (λ y. (r : Root) × Contains roots r × (suc r.epoch ≡ (new.label y).closing) × ((q : Place) × Stands (tree_of new r) y q)) (sym e) (here (subst (λ y. is_usable new.low (new.label y) ≡ false) e taken)))
        (λ far.
        let was = subst (λ (l : Label). l.state ≡ Closed) (c.label.others a far) is in
        let was_taken = subst (λ n. is_usable n (old.label a) ≡ false) c.label.low (subst (λ (l : Label). is_usable new.low l ≡ false) (c.label.others a far) taken) in
        let x = h.closed a ne was was_taken in
        (x.0, x.1, x.2 ∙ sym (ap (λ (l : Label). l.closing) (c.label.others a far)), ((x.3).0, tree_stays safe trees (label_kept roots c.label) x.0 x.1 a (x.3).0 (x.3).1)))
        (cases_eq a b);
  }
    where
      here : is_usable new.low (new.label b) ≡ false → (r : Root) × Contains roots r × (suc r.epoch ≡ (new.label b).closing) × ((q : Place) × Stands (tree_of new r) b q)
      here taken =
          let off : is_usable old.low (closed_at (old.label b) epoch) ≡ false = subst (λ n. is_usable n (closed_at (old.label b) epoch) ≡ false) c.label.low (subst (λ (l : Label). is_usable new.low l ≡ false) c.label.here taken) in
          let late = closed_late old.low (closed_at (old.label b) epoch) refl off in
          let below : (old.label b).epoch < epoch = let apart = late.0 in let le = c.begun in grind (arith, nat_tests, apart, le) in
          let x = shared.shared b epoch c.other c.hangs below late.1 in
          (x.0, x.1, x.2 ∙ sym (ap (λ (l : Label). l.closing) c.label.here), ((x.3).0, tree_stays safe trees (label_kept roots c.label) x.0 x.1 b (x.3).0 (x.3).1))

-- ---- the low epoch rises

module _ {low : ℕ} {roots kept : List Root} (active : List Top) (k : Known) (keep : KeepsFrom low roots kept) (up : k.low ≤ low) where
  still_there : (r : Root) (b : ℕ) (q : Place) → Stands (tree_of k r) b q → Stands (tree_of (raised k low active kept) r) b q
  still_there r = stands_by (λ t is. stands_top t is) (λ a i s p b st m e. stands_below i s b st m e)

  -- the kept tree in which a closed block is
  its_root : ClosedAreKept k roots → (b : ℕ) → b ≢ 1 → (k.label b).state ≡ Closed → is_usable low (k.label b) ≡ false → (r : Root) × Contains kept r × (suc r.epoch ≡ (k.label b).closing) × ((q : Place) × Stands (tree_of (raised k low active kept) r) b q)
  its_root h b ne is taken =
      let x = h.closed b ne is (taken_before k.low low (k.label b) up taken) in
      let late = (closed_late low (k.label b) is taken).1 in
      let le : low ≤ (x.0).epoch = let e = x.2 in omega (arith, e, late) in
      (x.0, keep.all x.0 x.1 le, x.2, ((x.3).0, still_there x.0 b (x.3).0 (x.3).1))

  pub raise_closed : ClosedAreKept k roots → ClosedAreKept (raised k low active kept) kept
  raise_closed h = record { closed = λ b ne is taken. its_root h b ne is taken }

  pub raise_loses : {t : Tree} {high : ℕ} → HasTrees k high active roots → ClosedAreKept k roots → ((b : ℕ) → Decided (IsKeptBy k roots b)) → (b : ℕ) → b ≢ 1 → IsLost (raised k low active kept) t kept b → IsLost k t roots b ⊎ IsStray k t roots b
  raise_loses {t} trees h decided b ne lost = ⊎_elim
      (λ has. by has (k.label b).state refl)
      (λ none. inl (record {
        taken = taken_before k.low low (k.label b) up lost.taken;
        outside = lost.outside;
        unkept = λ r q among st. none (r, among, (q, st));
      }))
      (decided b)
    where
      by : IsKeptBy k roots b → (s : State) → (k.label b).state ≡ s → IsLost k t roots b ⊎ IsStray k t roots b
      by has Free is = absurd ((trees.late has.0 b (has.2).0 has.1 (has.2).1).1.used is)
      by has Live is = inr (record { live = is; outside = lost.outside; kept = has })
      by has Closed is = let x = its_root h b ne is lost.taken in absurd (lost.unkept x.0 (x.3).0 x.1 (x.3).1)

-- ---- what strays

pub move_strays : {old new : Known} {before after : List Top} {roots : List Root} {t u : Tree} {Gap : ℕ → Type 0} → MovesOnly t u Gap → KeepsTrees old new before after roots → new.label ≡ old.label → (b : ℕ) → IsStray new u roots b → IsStray old t roots b ⊎ Gap b
move_strays {old} {roots = roots} {t} m s label b x = ⊎_elim
    (λ gap. inr gap)
    (λ no. inl (record {
      live = subst (λ (f : ℕ → Label). (f b).state ≡ Live) label x.live;
      outside = (
        λ w. ⊎_elim (λ v. x.outside.0 v) (λ r. ⊎_elim (λ c. x.outside.2 c) (λ g. no g) r) (m.within b w),
        λ made. ⊎_elim (λ v. x.outside.0 v) (λ v. x.outside.1 v) (m.made b made),
        λ c. x.outside.2 (m.covered b c),
      );
      kept = ((x.kept).0, (x.kept).1, (((x.kept).2).0, tree_still s (x.kept).0 (x.kept).1 b ((x.kept).2).0 ((x.kept).2).1));
    }))
    (m.decided b)

pub close_strays : {old new : Known} {b epoch high : ℕ} {before after : List Top} {roots : List Root} {t u : Tree} {past : List Queued} {queue : List Pending} → ClosesOne b epoch old new t u high past queue → KeepsTrees old new before after roots → (a : ℕ) → IsStray new u roots a → IsStray old t roots a
close_strays {old} {new} {b} {epoch} {roots = roots} {t} c s a x = ⊎_elim
    (λ e. absurd (live_closed (new.label a) x.live (subst (λ y. (new.label y).state ≡ Closed) (sym e) (ap (λ (l : Label). l.state) c.label.here))))
    (λ far. record {
      live = subst (λ (l : Label). l.state ≡ Live) (c.label.others a far) x.live;
      outside = (
        λ w. x.outside.0 (c.within a w),
        λ m. x.outside.1 (c.made a m),
        λ k. ⊎_elim (λ e. far e) (λ v. x.outside.2 v) (c.covered a k),
      );
      kept = ((x.kept).0, (x.kept).1, (((x.kept).2).0, tree_still s (x.kept).0 (x.kept).1 a ((x.kept).2).0 ((x.kept).2).1));
    })
    (cases_eq a b)
