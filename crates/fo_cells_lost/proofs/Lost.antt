-- No block is lost but in a gap that a call names.
use Rattle.std.proofs.Common.{◌≡◌, ◌≢◌, inl, inr, ⊎_elim, ℕ, ◌<◌, Bool, true, false, ◌||◌, eqb, leb, List, [], ◌∷◌, refl, sym, ◌∙◌, ap, subst, arith}
use Rattle.std.proofs.lemmas.Bool.{cases_eq}
use Rattle.std.proofs.lemmas.Bool.{leb-false}
use Rattle.std.specs.List.{Contains}
use Rattle.fo_image.specs.declared.types.Label.{Label}
use Rattle.fo_image.specs.Usable.{is_usable}
use Rattle.fo_crash.specs.declared.slot.Slot.{Slot}
use Rattle.fo_crash.specs.declared.place.Place.{Place}
use Rattle.fo_crash.specs.Images.{Content}
use Rattle.fo_crash.specs.Places.{place_below}
use Rattle.fo_cells.specs.Known.{Known, Top, MaySlot, Leads, Stands}
use Rattle.fo_cells.specs.Writes.{Gives}
use Rattle.fo_cells.specs.Safe.{IsSet, IsSafe}
use Rattle.fo_cells.proofs.Standing.{seen_is, stands_top, stands_below}
use Rattle.fo_cells.proofs.Calls.{nat_eq_here}
use Rattle.fo_cells_out.specs.Removals.{Pending}
use Rattle.fo_cells_out.specs.Parents.{Tree, copied_once, gained_once, lost_once, making}
use Rattle.fo_cells_queue.specs.of_cells_epochs.Epochs.{Root, tree_of, HasTrees}
use Rattle.fo_cells_queue.proofs.of_cells_epochs.Trees.{tree_stands}
use Rattle.fo_cells_queue.specs.Queue.{Queued, NewLabel, closed_at}
use Rattle.fo_cells_lost.specs.Lost.{IsLost, LosesOnly, KeepsKept, MovesOnly, AreShared, ClosesOne, SharesStill}

-- a block that is set has the slots of memory
set_slot : {k : Known} {b : ℕ} → IsSet k b → (i : ℕ) (s : Slot) → MaySlot k b i s → s ≡ (k.memory b).slot i
set_slot {k} {b} set i s m = ⊎_elim
    (λ has. sym has.is ∙ (set.versions has.content (subst (λ (cs : List Content). Contains cs has.content) (seen_is k b set.newborn) has.among)).slots i)
    (λ r. ⊎_elim (λ is. is) (λ c. absurd (set.clears i c.0 c.1)) r)
    m

-- KEPT TREES STAY
module _ {old new : Known} {high : ℕ} {doubt : Content → Type 0} {active : List Top} {roots : List Root} (safe : IsSafe old high doubt) (trees : HasTrees old high active roots) (kept : KeepsKept old new roots) where
  kept_slot : (r : Root) → Contains roots r → (a i : ℕ) (s : Slot) (p : Place) → Stands (tree_of old r) a p → MaySlot old a i s → MaySlot new a i s
  kept_slot r among a i s p st m =
      let l = trees.late r a p among st in
      let young : (old.label a).epoch < high = let begun = l.1.begun in let lt = (trees.kept r among).1 in omega (arith, begun, lt) in
      let set = safe.old a p l.0 (tree_stands trees r among a p st) young in
      inr (inl (set_slot set i s m ∙ ⊎_elim (λ e. sym e) (λ out. absurd (out r p among st)) (kept.slots a i)))

  along : (r : Root) → Contains roots r → (path : List (ℕ × Slot)) (a : ℕ) (p : Place) (b : ℕ) (q : Place) → Stands (tree_of old r) a p → Stands (tree_of new r) a p → Leads (tree_of old r) path a p b q → Stands (tree_of new r) b q
  along r among [] a p b q was st l = subst (λ y. Stands (tree_of new r) y q) l.0 (subst (λ y. Stands (tree_of new r) a y) l.1 st)
  along r among ((i, s) ∷ path) a p b q was st l = along r among path l.1.0 (place_below p i s) b q (stands_below i s l.1.0 was l.0 l.1.1) (stands_below i s l.1.0 st (kept_slot r among a i s p was l.0) l.1.1) l.1.2

  pub tree_stays : (r : Root) → Contains roots r → (b : ℕ) (q : Place) → Stands (tree_of old r) b q → Stands (tree_of new r) b q
  tree_stays r among b q st = along r among st.path st.top.at st.top.place b q (stands_top st.top st.is_top) (stands_top st.top st.is_top) st.leads

  -- A STEP AFTER WHICH NOTHING IS FREED: labels stay, and what was in the tree, made or covered is so, or is in the gap
  pub moves_lose : {t u : Tree} {Gap : ℕ → Type 0} → MovesOnly t u Gap → new.low ≡ old.low → new.label ≡ old.label → LosesOnly old new t u roots Gap
  moves_lose {t} {u} {Gap} m low label = record {
    each = λ b l. ⊎_elim
        (λ gap. inr gap)
        (λ no. inl (record {
          taken = subst (λ n. is_usable n (old.label b) ≡ false) low (subst (λ (f : ℕ → Label). is_usable new.low (f b) ≡ false) label l.taken);
          outside = (
            λ w. ⊎_elim (λ v. l.outside.0 v) (λ r. ⊎_elim (λ c. l.outside.2 c) (λ g. no g) r) (m.within b w),
            λ made. ⊎_elim (λ v. l.outside.0 v) (λ v. l.outside.1 v) (m.made b made),
            λ c. l.outside.2 (m.covered b c),
          );
          unkept = λ r q among st. l.unkept r q among (tree_stays r among b q st);
        }))
        (m.decided b);
  }

-- nothing moves
pub same_moves : (t : Tree) → MovesOnly t t (λ b. ⊥)
same_moves t = record { within = λ b w. inl w; made = λ b m. inr m; covered = λ b c. c; decided = λ b. inr (λ no. no) }

-- a copy in the place of its original, levels gained, levels lost
pub copied_moves : (t : Tree) (x y : ℕ) → MovesOnly t (copied_once t x y) (λ b. ⊥)
copied_moves t x y = record {
  within = λ b w. ⊎_elim (λ e. inr (inl (inr e))) (λ ne. inl (inl (w, ne))) (cases_eq b x);
  made = λ b m. ⊎_elim (λ e. inl (inr e)) (λ ne. inr (m, ne)) (cases_eq b y);
  covered = λ b c. inl c;
  decided = λ b. inr (λ no. no);
}

pub gained_moves : (t : Tree) (y : ℕ) → MovesOnly t (gained_once t y) (λ b. ⊥)
gained_moves t y = record {
  within = λ b w. inl (inl w);
  made = λ b m. ⊎_elim (λ e. inl (inr e)) (λ ne. inr (m, ne)) (cases_eq b y);
  covered = λ b c. c;
  decided = λ b. inr (λ no. no);
}

pub lost_moves : (t : Tree) (x : ℕ) → MovesOnly t (lost_once t x) (λ b. ⊥)
lost_moves t x = record {
  within = λ b w. ⊎_elim (λ e. inr (inl (inr e))) (λ ne. inl (w, ne)) (cases_eq b x);
  made = λ b m. inr m;
  covered = λ b c. inl c;
  decided = λ b. inr (λ no. no);
}

-- A BLOCK IS GIVEN OUT: it was made, and so is not lost
pub given_kept : {at : ℕ} {c : Content} {p : Place} {old new : Known} {high : ℕ} {active : List Top} {roots : List Root} → Gives at c p old new → HasTrees old high active roots → KeepsKept old new roots
given_kept {at} {old = old} g trees = record {
  slots = λ a i. ⊎_elim
      (λ e. inr (λ r q among st. g.nowhere q (subst (λ y. Stands old y q) e (tree_stands trees r among a q st))))
      (λ ne. inl ((g.memory.others a ne).slots i))
      (cases_eq a at);
}

pub gives_lose : {at : ℕ} {c : Content} {p : Place} {old new : Known} {t : Tree} {high : ℕ} {doubt : Content → Type 0} {active : List Top} {roots : List Root} → Gives at c p old new → IsSafe old high doubt → HasTrees old high active roots → LosesOnly old new t (making t at) roots (λ b. ⊥)
gives_lose {at} {c} {p} {old} {new} {t} g safe trees = record {
  each = λ b l. inl (record {
    taken = subst (λ n. is_usable n (old.label b) ≡ false) g.low (subst (λ (x : Label). is_usable new.low x ≡ false) (g.label b (λ e. l.outside.1 (inr e))) l.taken);
    outside = (l.outside.0, λ m. l.outside.1 (inl m), l.outside.2);
    unkept = λ r q among st. l.unkept r q among (tree_stays safe trees (given_kept g trees) r among b q st);
  });
}

-- A BLOCK IS CLOSED: it may be given out, or the tree of the epoch before has it
both_off : (x y : Bool) → (x || y) ≡ false → (x ≡ false) × (y ≡ false)
both_off true y e = absurd (cc)
both_off false y e = (refl, e)

not_both : (epoch begun low : ℕ) → (eqb epoch begun || leb epoch low) ≡ false → (epoch ≢ begun) × (low < epoch)
not_both epoch begun low e =
    let off = both_off (eqb epoch begun) (leb epoch low) e in (
      λ same. let x : true ≡ false = sym (nat_eq_here epoch begun same) ∙ off.0 in absurd (cc),
      leb-false epoch low off.1,
    )

pub label_kept : {b : ℕ} {l : Label} {old new : Known} (roots : List Root) → NewLabel b l old new → KeepsKept old new roots
label_kept roots n = record { slots = λ a i. inl (ap (λ (m : ℕ → Content). (m a).slot i) n.memory) }

pub closes_lose : {b epoch : ℕ} {old new : Known} {t u : Tree} {high : ℕ} {doubt : Content → Type 0} {active : List Top} {roots : List Root} {past : List Queued} {queue : List Pending} → ClosesOne b epoch old new t u high past queue → IsSafe old high doubt → HasTrees old high active roots → AreShared old t high roots past queue → LosesOnly old new t u roots (λ a. ⊥)
closes_lose {b} {epoch} {old} {new} {t} {u} {high} {roots = roots} c safe trees shared = record {
  each = λ a l. ⊎_elim
      (λ e. absurd (closed (subst (λ y. IsLost new u roots y) e l)))
      (λ ne. inl (record {
        taken = subst (λ n. is_usable n (old.label a) ≡ false) c.label.low (subst (λ (x : Label). is_usable new.low x ≡ false) (c.label.others a ne) l.taken);
        outside = (
          λ w. l.outside.0 (c.within a w),
          λ m. l.outside.1 (c.made a m),
          λ k. ⊎_elim (λ e. ne e) (λ v. l.outside.2 v) (c.covered a k),
        );
        unkept = λ r q among st. l.unkept r q among (tree_stays safe trees (label_kept roots c.label) r among a q st);
      }))
      (cases_eq a b);
}
  where
    closed : IsLost new u roots b → ⊥
    closed l =
        let off : is_usable old.low (closed_at (old.label b) epoch) ≡ false = subst (λ n. is_usable n (closed_at (old.label b) epoch) ≡ false) c.label.low (subst (λ (x : Label). is_usable new.low x ≡ false) c.label.here l.taken) in
        let apart = not_both epoch (old.label b).epoch old.low off in
        let below : (old.label b).epoch < epoch = let ne = apart.0 in let le = c.begun in omega (arith, ne, le) in
        let x = shared.shared b epoch c.other c.hangs below apart.1 in
        l.unkept x.0 (x.3).0 x.1 (tree_stays safe trees (label_kept roots c.label) x.0 x.1 b (x.3).0 (x.3).1)

pub shares_still : {old new : Known} {t u : Tree} {high : ℕ} {doubt : Content → Type 0} {active : List Top} {roots : List Root} {past after : List Queued} {queue rest : List Pending} → SharesStill old new t u high past after queue rest → KeepsKept old new roots → IsSafe old high doubt → HasTrees old high active roots → AreShared old t high roots past queue → AreShared new u high roots after rest
shares_still {old} {new} s kept safe trees h = record {
  shared = λ b epoch ne hangs below low. ⊎_elim
      (λ was.
      let x = h.shared b epoch ne was.0 (subst (λ (l : Label). l.epoch < epoch) was.1 below) (subst (λ n. n < epoch) s.low low) in
      (x.0, x.1, x.2, ((x.3).0, tree_stays safe trees kept x.0 x.1 b (x.3).0 (x.3).1)))
      (λ new_is. let up = new_is in let down = below in absurd (omega (arith, up, down)))
      (s.each b epoch hangs);
}

-- what hangs where nothing new is within or waits
pub same_shares : {old new : Known} (t : Tree) (high : ℕ) (past : List Queued) (queue : List Pending) → new.low ≡ old.low → new.label ≡ old.label → SharesStill old new t t high past past queue queue
same_shares t high past queue low label = record { low = low; each = λ b epoch is. inl (is, ap (λ (f : ℕ → Label). f b) label) }
