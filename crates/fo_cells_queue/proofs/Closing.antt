-- A block of the first removal is closed, of the active epoch or of an earlier one; and the low epoch rises.
use Rattle.std.proofs.Common.{◌≡◌, ◌≢◌, ◌⊎◌, inl, inr, ⊎_elim, ℕ, ◌<◌, ◌≤◌, false, ◌||◌, eqb, leb, List, [], ◌∷◌, ◌++◌, map, refl, sym, subst, arith}
use Rattle.std.proofs.lemmas.Bool.{cases_eq, cases_lt}
use Rattle.std.proofs.lemmas.Bool.Decides.{nat_tests}
use Rattle.std.proofs.lemmas.List.Elements.{Contains-append_cases}
use Rattle.std.specs.List.{Contains}
use Rattle.fo_image.specs.declared.types.State.TheVariants.{Free, Closed}
use Rattle.fo_crash.specs.declared.place.Place.{Place}
use Rattle.fo_cells_epochs.specs.of_cells.Known.{Known, Top, LabelFits, Stands}
use Rattle.fo_cells_epochs.specs.of_cells.Writes.{Relabels}
use Rattle.fo_cells_epochs.proofs.of_cells.Standing.{stands_by, stands_top, stands_below, among_cases, first_among, next_among}
use Rattle.fo_cells_epochs.proofs.of_cells.Calls.{among_map}
use Rattle.fo_cells_epochs.specs.of_cells_out.Removals.{Pending, AreBehind, IsCovered}
use Rattle.fo_cells_epochs.specs.of_cells_out.Parents.{Tree, Stays, IsDivided, blocks_of, view}
use Rattle.fo_cells_epochs.proofs.of_cells_out.Queue.{Passes, among_left, among_right, among_either, nothing_among, first_nowhere, without_block, close_next}
use Rattle.fo_cells_epochs.proofs.of_cells_out.Parents.{parents_still}
use Rattle.fo_cells_epochs.proofs.of_cells_out.Steps.{tree_still, forest_still, relabel_stays}
use Rattle.fo_cells_epochs.proofs.of_cells_out.Dividing.{listed_one, covered_one, still_divided, done_divided}
use Rattle.fo_cells_epochs.specs.Epochs.{Root, root_top, tree_of, IsHeldAt, HasTrees, RaisesLow, from_tops}
use Rattle.fo_cells_epochs.proofs.TreeSteps.{close_trees}
use Rattle.fo_cells_queue.specs.Queue.{Queued, tops_from, past_blocks, ArePast, InOrder, IsQueue, NewLabel, IsSetAfter, closed_at, first_past, uncovering}
use Rattle.fo_cells_queue.proofs.Seen.{StandsFrom, from_active, from_root, from_cases, seen_cases, seen_active, seen_tree, past_each}
use Rattle.fo_cells_queue.proofs.Queue.{queue_still}

-- what stands, stands in the active trees or in that of a kept root
pub stands_cases : {k : Known} {high : ℕ} {active : List Top} {roots : List Root} → HasTrees k high active roots → (b : ℕ) (q : Place) → Stands k b q → Stands (view k active) b q ⊎ StandsFrom k roots 0 b q
stands_cases {k} {high} {active} {roots} h b q st = ⊎_elim
    (λ a. inl (record { top = st.top; is_top = a; path = st.path; leads = st.leads }))
    (λ r. let (y, among, e) = among_map root_top roots st.top r in inr (record { root = y; among = among; from = omega arith; stands = record { top = st.top; is_top = subst (λ (t : Top). Contains (root_top y ∷ []) t) e (first_among (root_top y) []); path = st.path; leads = st.leads } }))
    (Contains-append_cases active (map root_top roots) st.top (subst (λ (ts : List Top). Contains ts st.top) h.tops st.is_top))

-- THE LABEL of a block that stands nowhere from the epoch of its removal on
pub record Closes (b epoch : ℕ) (old new : Known) (active : List Top) (roots : List Root) : Type 0 where
  pub label : NewLabel b (closed_at (old.label b) epoch) old new
  pub begun : (old.label b).epoch ≤ epoch
  pub nowhere : (p : Place) → Stands (view old (tops_from active roots epoch)) b p → ⊥

module _ {b epoch : ℕ} {old new : Known} {high : ℕ} {active : List Top} {roots : List Root} (h : HasTrees old high active roots) (c : Closes b epoch old new active roots) where
  pub closed_active : (p : Place) → Stands (view old active) b p → ⊥
  closed_active p st = c.nowhere p (seen_active old active roots epoch b p st)

  -- a kept root that has it is of an earlier epoch
  earlier_root : (r : Root) → Contains roots r → (p : Place) → Stands (tree_of old r) b p → r.epoch < epoch
  earlier_root r among p st = ⊎_elim
      (λ lt. lt)
      (λ le. absurd (c.nowhere p (seen_tree old active roots epoch b p (record { root = r; among = among; from = le; stands = st }))))
      (cases_lt r.epoch epoch)

  pub closed_held : (r : Root) → Contains roots r → (p : Place) → Stands (tree_of old r) b p → IsHeldAt r.epoch (closed_at (old.label b) epoch)
  closed_held r among p st = record {
    begun = (h.late r b p among st).1.begun;
    used = λ e. let x : Closed ≡ Free = e in absurd (cc);
    later = λ e. earlier_root r among p st;
  }

  above : (low begun : ℕ) → begun ≤ epoch → epoch ≢ begun → low < epoch → (eqb epoch begun || leb epoch low) ≡ false
  above low begun le ne lt = grind (arith, nat_tests, le, ne, lt)

  -- it may be given out, and stands nowhere; or its label fits
  allowed : ((p : Place) → Stands old b p → ⊥) ⊎ LabelFits old.low (old.label b) (closed_at (old.label b) epoch)
  allowed = ⊎_elim
      (λ same. inl (λ p st. ⊎_elim
      (λ a. closed_active p a)
      (λ x.
      let lt = earlier_root x.root x.among p x.stands in
      let le = (h.late x.root b p x.among x.stands).1.begun in
      let e : epoch ≡ (old.label b).epoch = same in
      omega (arith, lt, le, e))
      (stands_cases h b p st)))
      (λ ne. ⊎_elim
      (λ lt. inr (record { kind = refl; tag = refl; epoch = refl; kept = above old.low (old.label b).epoch c.begun ne lt }))
      (λ le. inl (λ p st. ⊎_elim
      (λ a. closed_active p a)
      (λ x.
      let lt = earlier_root x.root x.among p x.stands in
      let kept = (h.kept x.root x.among).0 in
      let low = le in
      omega (arith, lt, kept, low))
      (stands_cases h b p st)))
      (cases_lt old.low epoch))
      (cases_eq epoch (old.label b).epoch)

  pub closed_relabels : Relabels b (closed_at (old.label b) epoch) old new
  closed_relabels = record {
    memory = c.label.memory;
    tops = c.label.tops;
    low = c.label.low;
    device = c.label.device;
    waits = c.label.waits;
    clears = c.label.clears;
    here = c.label.here;
    others = c.label.others;
    allowed = allowed;
  }

-- ONE BLOCK LESS TO CLOSE
same_stays : (k : Known) (t : Tree) → Stays k k t
same_stays k t = record { slots = λ a j. refl; stands = λ b q st. st; may = λ a i b s m e. m; unwritten = λ a m u. u; tops = λ y is. is }

same_passes : (k : Known) (queue : List Pending) → Passes queue k k
same_passes k queue = record { stands = λ b q st. st; may = λ a i s p b st m e c. m; memory = λ a i b e c. e; tops = λ t is c. is }

-- divided without a block that stands nowhere
pub less_divided : (k : Known) (t : Tree) (b : ℕ) (before shorter : List ℕ) (queue rest : List Pending) → ((p : Place) → Stands k b p → ⊥) → ((a : ℕ) → Contains shorter a ⊎ IsCovered rest a → t.Covered a) → ((a : ℕ) → t.Covered a → (a ≡ b) ⊎ (Contains shorter a ⊎ IsCovered rest a)) → AreBehind k shorter rest → IsDivided k t before queue → IsDivided k (uncovering t shorter rest) shorter rest
less_divided k t b before shorter queue rest nowhere less more behind d = record {
  tree = tree_still t (λ a. Contains shorter a ⊎ IsCovered rest a) (same_stays k t) less d.tree;
  forest = forest_still t (λ a. Contains shorter a ⊎ IsCovered rest a) (same_stays k t) less d.forest;
  parents = parents_still t (λ a. Contains shorter a ⊎ IsCovered rest a) (same_stays k t) (λ a p st c. ⊎_elim
      (λ e. absurd (nowhere p (subst (λ y. Stands k y p) e st)))
      (λ is. is)
      (more a c)) d.parents;
  behind = behind;
  listed = λ a c. ⊎_elim (λ l. among_left shorter (blocks_of rest) a l) (λ r. among_right shorter (blocks_of rest) a (listed_one rest a r)) c;
  covered = λ a c. c;
}

-- removals of earlier epochs without a block that stands nowhere from this epoch on
pub past_without : (k : Known) (active : List Top) (roots : List Root) (past : List Queued) (earlier shorter : List ℕ) → ((r : Queued) (a : ℕ) (p : Place) → Contains past r → Stands (view k (tops_from active roots r.epoch)) a p → Contains earlier a → Contains shorter a) → ArePast k active roots earlier past → ArePast k active roots shorter past
past_without k active roots [] earlier shorter still h = tt
past_without k active roots (r ∷ rs) earlier shorter still h = (
  (without_block (r.pending ∷ []) earlier shorter (λ a p st c. still r a p (first_among r rs) st c) (h.0, tt)).0,
  past_without k active roots rs (earlier ++ r.pending.blocks) (shorter ++ r.pending.blocks) (λ x a p is st c. ⊎_elim
      (λ l. among_left shorter r.pending.blocks a (still x a p (next_among r x rs is) st l))
      (λ own. among_right shorter r.pending.blocks a own)
      (among_either earlier r.pending.blocks a c)) h.1,
)

pub in_order : (epoch : ℕ) (past : List Queued) (r : Queued) → InOrder epoch past → Contains past r → epoch ≤ r.epoch
in_order epoch [] r h is = absurd (none is)
  where
    none : Contains [] r → ⊥
    none (n, lt, e) = omega (arith, lt)
in_order epoch (x ∷ xs) r h is = ⊎_elim
    (λ e. subst (λ (y : Queued). epoch ≤ y.epoch) e h.0)
    (λ more. let le = h.0 in let next = in_order x.epoch xs r h.1 more in omega (arith, le, next))
    (among_cases x xs r is)

order_from : (epoch : ℕ) (past : List Queued) → InOrder epoch past → InOrder 0 past
order_from epoch [] h = tt
order_from epoch (x ∷ xs) h = (omega arith, h.1)

-- a later epoch is seen from fewer tops
later_seen : (k : Known) (active : List Top) (roots : List Root) (epoch later b : ℕ) (q : Place) → epoch ≤ later → Stands (view k (tops_from active roots later)) b q → Stands (view k (tops_from active roots epoch)) b q
later_seen k active roots epoch later b q le st = ⊎_elim
    (λ a. seen_active k active roots epoch b q a)
    (λ x. let from = x.from in seen_tree k active roots epoch b q (record { root = x.root; among = x.among; from = omega (arith, le, from); stands = x.stands }))
    (seen_cases k active roots later b q st)

-- the next block of the first removal of an earlier epoch stands nowhere from that epoch on
pub past_nowhere : {k : Known} {t : Tree} {high : ℕ} {active : List Top} {roots : List Root} {epoch b after : ℕ} {bs : List ℕ} {rs : List Queued} {queue : List Pending} → IsQueue k t high active roots (first_past epoch (b ∷ bs) after ∷ rs) queue → IsSetAfter k after → (p : Place) → Stands (view k (tops_from active roots epoch)) b p → ⊥
past_nowhere {epoch = epoch} {b = b} {after = after} {bs = bs} q set p st = first_nowhere (record { blocks = b ∷ bs; after = after }) q.behind.0 set b p st (first_among b bs)

pub past_uncovers : {k : Known} {t : Tree} {high : ℕ} {active : List Top} {roots : List Root} {epoch b after : ℕ} {bs : List ℕ} {rs : List Queued} {queue : List Pending} → IsQueue k t high active roots (first_past epoch (b ∷ bs) after ∷ rs) queue → IsSetAfter k after → IsQueue k (uncovering t (bs ++ past_blocks rs) queue) high active roots (first_past epoch bs after ∷ rs) queue
past_uncovers {k} {t} {high} {active} {roots} {epoch} {b} {after} {bs} {rs} {queue} q set = record {
  now = less_divided (view k active) t b (b ∷ (bs ++ past_blocks rs)) (bs ++ past_blocks rs) queue queue (λ p st. away p (seen_active k active roots epoch b p st)) less more
      (without_block queue (b ∷ (bs ++ past_blocks rs)) (bs ++ past_blocks rs) (λ a p st c. ⊎_elim (λ e. absurd (away p (seen_active k active roots epoch b p (subst (λ y. Stands (view k active) y p) (sym e) st)))) (λ rest. rest) (among_cases b (bs ++ past_blocks rs) a c)) q.now.behind) q.now;
  behind = (
    (close_next b bs after [] away (q.behind.0, tt)).0,
    past_without k active roots rs (b ∷ bs) bs (λ r a p is st c. ⊎_elim
        (λ e. absurd (away p (later_seen k active roots epoch r.epoch b p (in_order epoch rs r q.order.1 is) (subst (λ y. Stands (view k (tops_from active roots r.epoch)) y p) (sym e) st))))
        (λ rest. rest)
        (among_cases b bs a c)) q.behind.1,
  );
  order = q.order;
  before = λ r is. ⊎_elim (λ e. subst (λ (y : Queued). y.epoch < high) e (q.before (first_past epoch (b ∷ bs) after) (first_among (first_past epoch (b ∷ bs) after) rs))) (λ rest. q.before r (next_among (first_past epoch (b ∷ bs) after) r rs rest)) (among_cases (first_past epoch bs after) rs r is);
  within = q.within;
  once = q.once.1;
  live = λ a is. q.live a (⊎_elim (λ c. inl (less a c)) (λ m. inr m) is);
  begun = λ r a is own. ⊎_elim
      (λ e. subst (λ (y : Queued). (k.label a).epoch ≤ y.epoch) e (q.begun (first_past epoch (b ∷ bs) after) a (first_among (first_past epoch (b ∷ bs) after) rs) (next_among b a bs (subst (λ (y : Queued). Contains y.pending.blocks a) (sym e) own))))
      (λ rest. q.begun r a (next_among (first_past epoch (b ∷ bs) after) r rs rest) own)
      (among_cases (first_past epoch bs after) rs r is);
}
  where
    away : (p : Place) → Stands (view k (tops_from active roots epoch)) b p → ⊥
    away p st = past_nowhere q set p st

    less : (a : ℕ) → Contains (bs ++ past_blocks rs) a ⊎ IsCovered queue a → t.Covered a
    less a c = q.now.covered a (⊎_elim (λ l. inl (next_among b a (bs ++ past_blocks rs) l)) (λ r. inr r) c)

    more : (a : ℕ) → t.Covered a → (a ≡ b) ⊎ (Contains (bs ++ past_blocks rs) a ⊎ IsCovered queue a)
    more a c = ⊎_elim
        (λ old. ⊎_elim (λ e. inl (sym e)) (λ rest. inr (inl rest)) (among_cases b (bs ++ past_blocks rs) a old))
        (λ own. inr (inr (covered_one queue a own)))
        (among_either (b ∷ (bs ++ past_blocks rs)) (blocks_of queue) a (q.now.listed a c))

-- the same of the active epoch, where no removal of an earlier one is left
pub now_nowhere : {k : Known} {t : Tree} {high : ℕ} {active : List Top} {roots : List Root} {b after : ℕ} {bs : List ℕ} {rs : List Pending} → HasTrees k high active roots → IsQueue k t high active roots [] (record { blocks = b ∷ bs; after = after } ∷ rs) → IsSetAfter k after → (p : Place) → Stands (view k (tops_from active roots high)) b p → ⊥
now_nowhere {k} {t} {high} {active} {roots} {b} {after} {bs} h q set p st = ⊎_elim
    (λ a. first_nowhere (record { blocks = b ∷ bs; after = after }) q.now.behind.0 set b p a (first_among b bs))
    (λ x. let from = x.from in let lt = (h.kept x.root x.among).1 in omega (arith, from, lt))
    (seen_cases k active roots high b p st)

pub now_uncovers : {k : Known} {t : Tree} {high : ℕ} {active : List Top} {roots : List Root} {b after : ℕ} {bs : List ℕ} {rs : List Pending} → HasTrees k high active roots → IsQueue k t high active roots [] (record { blocks = b ∷ bs; after = after } ∷ rs) → IsSetAfter k after → IsQueue k (uncovering t [] (record { blocks = bs; after = after } ∷ rs)) high active roots [] (record { blocks = bs; after = after } ∷ rs)
now_uncovers {k} {t} {high} {active} {roots} {b} {after} {bs} {rs} h q set = record {
  now = less_divided (view k active) t b [] [] (record { blocks = b ∷ bs; after = after } ∷ rs) (record { blocks = bs; after = after } ∷ rs) away less more (close_next b bs after rs away q.now.behind) q.now;
  behind = q.behind;
  order = q.order;
  before = q.before;
  within = q.within;
  once = q.once.1;
  live = λ a is. q.live a (⊎_elim (λ c. inl (less a c)) (λ m. inr m) is);
  begun = q.begun;
}
  where
    away : (p : Place) → Stands (view k active) b p → ⊥
    away p st = now_nowhere h q set p (seen_active k active roots high b p st)

    less : (a : ℕ) → Contains [] a ⊎ IsCovered (record { blocks = bs; after = after } ∷ rs) a → t.Covered a
    less a c = q.now.covered a (⊎_elim (λ none. inl none) (λ y. inr (⊎_elim (λ own. inl (next_among b a bs own)) (λ rest. inr rest) y)) c)

    more : (a : ℕ) → t.Covered a → (a ≡ b) ⊎ (Contains [] a ⊎ IsCovered (record { blocks = bs; after = after } ∷ rs) a)
    more a c = ⊎_elim
        (λ own. ⊎_elim (λ e. inl (sym e)) (λ rest. inr (inr (inl rest))) (among_cases b bs a own))
        (λ rest. inr (inr (inr rest)))
        (covered_one (record { blocks = b ∷ bs; after = after } ∷ rs) a (q.now.listed a c))

-- A LABEL CHANGES of a block that waits no more
pub queue_closes : {b epoch : ℕ} {old new : Known} {t : Tree} {high : ℕ} {active : List Top} {roots : List Root} {past : List Queued} {queue : List Pending} → HasTrees old high active roots → Closes b epoch old new active roots → (t.Covered b ⊎ t.Made b → ⊥) → IsQueue old t high active roots past queue → IsQueue new t high active roots past queue
queue_closes {b} {epoch} {old} {new} {t} h c out q =
    let r = closed_relabels h c in
    queue_still (relabel_stays t r) (close_trees h r (closed_active h c) (closed_held h c)) (λ a is. r.others a (λ e. out (subst (λ y. t.Covered y ⊎ t.Made y) e is))) q

-- a removal with nothing left is gone
pub past_done : {k : Known} {t : Tree} {high : ℕ} {active : List Top} {roots : List Root} {epoch after : ℕ} {rs : List Queued} {queue : List Pending} → IsQueue k t high active roots (first_past epoch [] after ∷ rs) queue → IsQueue k t high active roots rs queue
past_done {epoch = epoch} {after = after} {rs = rs} q = record {
  now = q.now;
  behind = q.behind.1;
  order = order_from epoch rs q.order.1;
  before = λ r is. q.before r (next_among (first_past epoch [] after) r rs is);
  within = q.within;
  once = q.once;
  live = q.live;
  begun = λ r a is own. q.begun r a (next_among (first_past epoch [] after) r rs is) own;
}

pub now_done : {k : Known} {t : Tree} {high : ℕ} {active : List Top} {roots : List Root} {after : ℕ} {rs : List Pending} → IsQueue k t high active roots [] (record { blocks = []; after = after } ∷ rs) → IsQueue k t high active roots [] rs
now_done {t = t} q = record {
  now = done_divided t q.now;
  behind = q.behind;
  order = q.order;
  before = q.before;
  within = q.within;
  once = q.once;
  live = q.live;
  begun = q.begun;
}

-- CLOSED: the next block of the first removal, of an earlier epoch or of the active one
pub past_closed : {k new : Known} {t : Tree} {high : ℕ} {active : List Top} {roots : List Root} {epoch b after : ℕ} {bs : List ℕ} {rs : List Queued} {queue : List Pending} → HasTrees k high active roots → IsQueue k t high active roots (first_past epoch (b ∷ bs) after ∷ rs) queue → IsSetAfter k after → NewLabel b (closed_at (k.label b) epoch) k new → Closes b epoch k new active roots × IsQueue new (uncovering t (bs ++ past_blocks rs) queue) high active roots (first_past epoch bs after ∷ rs) queue
past_closed {k} {new} {t} {high} {active} {roots} {epoch} {b} {after} {bs} {rs} {queue} h q set n =
    let c : Closes b epoch k new active roots = record {
      label = n;
      begun = q.begun (first_past epoch (b ∷ bs) after) b (first_among (first_past epoch (b ∷ bs) after) rs) (first_among b bs);
      nowhere = λ p st. past_nowhere q set p st;
    } in (
      c,
      queue_closes h c (λ is. ⊎_elim
          (λ y. q.once.0 (⊎_elim (λ l. among_left (bs ++ past_blocks rs) (blocks_of queue) b l) (λ r. among_right (bs ++ past_blocks rs) (blocks_of queue) b (listed_one queue b r)) y))
          (λ m. q.now.forest.uncovered b m (q.now.covered b (inl (first_among b (bs ++ past_blocks rs)))))
          is) (past_uncovers q set),
    )

pub now_closed : {k new : Known} {t : Tree} {high : ℕ} {active : List Top} {roots : List Root} {b after : ℕ} {bs : List ℕ} {rs : List Pending} → HasTrees k high active roots → (k.label b).epoch ≤ high → IsQueue k t high active roots [] (record { blocks = b ∷ bs; after = after } ∷ rs) → IsSetAfter k after → NewLabel b (closed_at (k.label b) high) k new → Closes b high k new active roots × IsQueue new (uncovering t [] (record { blocks = bs; after = after } ∷ rs)) high active roots [] (record { blocks = bs; after = after } ∷ rs)
now_closed {k} {new} {t} {high} {active} {roots} {b} {after} {bs} {rs} h begun q set n =
    let c : Closes b high k new active roots = record { label = n; begun = begun; nowhere = λ p st. now_nowhere h q set p st } in (
      c,
      queue_closes h c (λ is. ⊎_elim
          (λ y. q.once.0 (⊎_elim (λ none. absurd (nothing_among b none)) (λ r. listed_one (record { blocks = bs; after = after } ∷ rs) b r) y))
          (λ m. q.now.forest.uncovered b m (q.now.covered b (inr (inl (first_among b bs)))))
          is) (now_uncovers h q set),
    )

-- THE LOW EPOCH RISES: fewer kept roots are seen
pub queue_raised : {k : Known} {t : Tree} {high low : ℕ} {active : List Top} {roots kept : List Root} {past : List Queued} {queue : List Pending} → RaisesLow low roots kept → IsQueue k t high active roots past queue → IsQueue (from_tops k (active ++ map root_top kept) low) t high active kept past queue
queue_raised {k} {t} {high} {low} {active} {roots} {kept} {past} {queue} x q = record {
  now = still_divided t (past_blocks past) queue (record { slots = λ a j. refl; stands = λ b p st. alike active b p st; may = λ a i b s m e. m; unwritten = λ a m u. record { newborn = u.newborn; late = u.late; clears = u.clears }; tops = λ y is. is }) q.now;
  behind = past_each k (from_tops k (active ++ map root_top kept) low) active active roots kept past [] (λ r is. record {
    led = λ a i b s p st m e own. ((p, wider r.epoch a p st), m);
    memory = λ i b e own. e;
    tops = λ y in_y own. wider_top r.epoch y in_y;
  }) q.behind;
  order = q.order;
  before = q.before;
  within = q.within;
  once = q.once;
  live = q.live;
  begun = q.begun;
}
  where
    alike : (ts : List Top) (b : ℕ) (p : Place) → Stands (view (from_tops k (active ++ map root_top kept) low) ts) b p → Stands (view k ts) b p
    alike ts = stands_by (λ y is. stands_top y is) (λ a i s p b st m e. stands_below i s b st m e)

    wider_top : (epoch : ℕ) (y : Top) → Contains (tops_from active kept epoch) y → Contains (tops_from active roots epoch) y
    wider_top epoch y is = ⊎_elim
        (λ a. from_active active roots epoch y a)
        (λ z. subst (λ (w : Top). Contains (tops_from active roots epoch) w) z.is (from_root active roots epoch z.root (x.each z.root z.among).0 z.from))
        (from_cases active kept epoch y is)

    wider : (epoch b : ℕ) (p : Place) → Stands (view (from_tops k (active ++ map root_top kept) low) (tops_from active kept epoch)) b p → Stands (view k (tops_from active roots epoch)) b p
    wider epoch b p st = stands_by (λ y is. stands_top y (wider_top epoch y is)) (λ a i s r c s_st m e. stands_below i s c s_st m e) b p (alike (tops_from active kept epoch) b p st)
