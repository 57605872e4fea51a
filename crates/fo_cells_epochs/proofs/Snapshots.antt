-- A snapshot's new root, and a low epoch that rises.
use Rattle.std.proofs.Common.{◌≡◌, ◌≢◌, ◌⊎◌, inl, inr, ⊎_elim, ℕ, suc, ◌<◌, ◌≤◌, false, ◌||◌, eqb, leb, List, [], ◌∷◌, ◌++◌, map, refl, sym, ◌∙◌, ap, subst, arith}
use Rattle.std.proofs.lemmas.Bool.{cases_eq}
use Rattle.std.proofs.lemmas.Bool.Decides.{nat_tests}
use Rattle.std.proofs.lemmas.List.Elements.{Contains-append_left, Contains-append_cases}
use Rattle.std.specs.List.{Contains}
use Rattle.fo_image.specs.declared.types.Label.{Label}
use Rattle.fo_image.specs.declared.types.State.{State}
use Rattle.fo_image.specs.declared.types.State.TheVariants.{Free, Live, Closed}
use Rattle.fo_image.specs.declared.types.Pointer.TheVariants.{Local}
use Rattle.fo_image.specs.Usable.{is_usable, is_usable_in}
use Rattle.fo_crash.specs.declared.slot.Slot.{Slot}
use Rattle.fo_crash.specs.declared.place.Place.{Place}
use Rattle.fo_crash.specs.Images.{Content, Reaches, target, to_block}
use Rattle.fo_crash.specs.Places.{super_place, root_place, place_below}
use Rattle.fo_cells.specs.Known.{Known, Top, Wait, Clear, IsWait, IsClear, MaySlot, IsKept, Leads, Stands, written}
use Rattle.fo_cells.specs.Safe.{super_top, IsSet, IsLive, IsSafe}
use Rattle.fo_cells.proofs.Standing.{at_b, stands_by, stands_top, stands_below, seen_is, written_is, written_may, among_cases, first_among, next_among}
use Rattle.fo_cells.proofs.Calls.{among_map}
use Rattle.fo_cells.proofs.Known.{memory_may, placed, ranked}
use Rattle.fo_cells.proofs.Super.{may_counted, counts_stands, counts_keeps, counts_doubt, written_other}
use Rattle.fo_cells.proofs.SafeCalls.{set_beside}
use Rattle.fo_cells_out.specs.Parents.{view}
use Rattle.fo_cells_epochs.specs.Epochs.{Root, root_top, tree_of, IsHeldAt, HasTrees, HasRoots, KeepsTrees, FewerTops, from_tops, kept_root, begun, BeginsEpoch, RaisesLow}
use Rattle.fo_cells_epochs.proofs.Trees.{active_stands, tree_stands, trees_step, only_one}

-- what the tree of a kept epoch may hold may not be given out
pub held_kept : (low epoch : ℕ) (l : Label) → low ≤ epoch → IsHeldAt epoch l → is_usable low l ≡ false
held_kept low epoch l le h = by l.state refl
  where
    above : (closing begun : ℕ) → epoch < closing → begun ≤ epoch → (eqb closing begun || leb closing low) ≡ false
    above closing begun later before = grind (arith, nat_tests, later, before, le)

    by : (s : State) → l.state ≡ s → is_usable_in s low l ≡ false
    by Free is = absurd (h.used is)
    by Live is = refl
    by Closed is = above l.closing l.epoch (h.later is) h.begun

pub live_kept : (low : ℕ) (l : Label) → l.state ≡ Live → is_usable low l ≡ false
live_kept low l is = ap (λ s. is_usable_in s low l) is

-- TOPS THAT STAND ALREADY
module _ {k : Known} (ts : List Top) (low : ℕ) (stand : (t : Top) → Contains ts t → Stands k t.at t.place) where
  pub from_stands : (b : ℕ) (q : Place) → Stands (from_tops k ts low) b q → Stands k b q
  from_stands = stands_by (λ t is. stand t is) (λ a i s p b st m e. stands_below i s b st m e)

  pub from_safe : {high : ℕ} {doubt : Content → Type 0} → Contains ts super_top → IsKept (from_tops k ts low) → IsSafe k high doubt → IsSafe (from_tops k ts low) high doubt
  from_safe {high} {doubt} top kept safe = record {
    kept = kept;
    of_device = record { blocks = λ b p st. safe.of_device.blocks b p (from_stands b p st); labels = λ b p ne st. safe.of_device.labels b p ne (from_stands b p st) };
    top = top;
    old = λ b p ne st young. let s = safe.old b p ne (from_stands b p st) young in record { newborn = s.newborn; versions = s.versions; clears = s.clears };
    epochs = λ a i b s p ne st m e. safe.epochs a i b s p ne (from_stands a p st) m e;
    live = safe.live;
    settled = safe.settled;
    supers = record { versions = safe.supers.versions };
    waits = λ leaf on j is. let m = safe.waits leaf on j is in (m.0, m.1, m.2, m.3, λ p q sp sq. m.4 p q (from_stands leaf p sp) (from_stands on q sq));
    clears = safe.clears;
  }

pub from_kept : {k : Known} (ts : List Top) → ((t : Top) → Contains ts t → Stands k t.at t.place) → IsKept k → IsKept (from_tops k ts k.low)
from_kept {k} ts stand kept =
    let stands : (b : ℕ) (q : Place) → Stands (from_tops k ts k.low) b q → Stands k b q = from_stands ts k.low stand in record {
      one = λ b p q x y. kept.one b p q (stands b p x) (stands b q y);
      falls = λ a i b s p st m e. kept.falls a i b s p (stands a p st) m e;
      labelled = λ b p ne st. kept.labelled b p ne (stands b p st);
      named = λ a i t c p st w e. let n = kept.named a i t c p (stands a p st) w e in (n.0, record { settled = n.1.settled; labels = n.1.labels });
    }

-- A SNAPSHOT
-- what is below the root of before stands in the active trees, low enough, and is of no later epoch
pub record IsBelow (k : Known) (high : ℕ) (active : List Top) (b : ℕ) (q : Place) : Type 0 where
  pub stands : Stands (view k active) b q
  pub rank : q.rank ≤ 2144
  pub epoch : (k.label b).epoch ≤ high

module _ {d : Content} {root next high : ℕ} {old mid : Known} (x : BeginsEpoch d root next high old mid) {active after : List Top} {roots : List Root} {high_of : Content → ℕ} {doubt : Content → Type 0} (safe : IsSafe old high doubt) (trees : HasTrees old high active roots) (supers : HasRoots old high high_of) (fewer : FewerTops active after) where
  root_led : target ((old.memory 1).slot 0) ≡ Local root
  root_led = ap target x.was

  root_active : Stands (view old active) root root_place
  root_active = subst (λ (s : Slot). Stands (view old active) root (place_below super_place 0 s)) x.was (stands_below 0 ((old.memory 1).slot 0) root (stands_top super_top trees.top) (inr (inl refl)) root_led)

  tops_stand : (t : Top) → Contains (root_top (kept_root root high) ∷ old.tops) t → Stands old t.at t.place
  tops_stand t is = ⊎_elim
      (λ e. subst (λ (y : Top). Stands old y.at y.place) e (active_stands trees root root_place root_active))
      (λ more. stands_top t more)
      (among_cases (root_top (kept_root root high)) old.tops t is)

  root_kept : IsKept (from_tops old (root_top (kept_root root high) ∷ old.tops) old.low)
  root_kept = from_kept (root_top (kept_root root high) ∷ old.tops) tops_stand safe.kept

  mid_kept : IsKept mid
  mid_kept = counts_keeps x.counts root_kept

  mid_old : (b : ℕ) (q : Place) → Stands mid b q → Stands old b q
  mid_old b q st = from_stands (root_top (kept_root root high) ∷ old.tops) old.low tops_stand b q (counts_stands x.counts b q st)

  -- tops that were, or the root
  mid_top : (t : Top) → Contains (root_top (kept_root root high) ∷ old.tops) t → Stands mid t.at t.place
  mid_top t is = stands_top t (subst (λ (ts : List Top). Contains ts t) (sym x.counts.same.tops) is)

  active_top : (t : Top) → Contains after t → Contains (root_top (kept_root root high) ∷ old.tops) t
  active_top t is = next_among (root_top (kept_root root high)) t old.tops (subst (λ (ts : List Top). Contains ts t) (sym trees.tops) (Contains-append_left active (map root_top roots) t (fewer.fewer t is)))

  kept_top : (r : Root) → Contains (kept_root root high ∷ roots) r → Contains (root_top (kept_root root high) ∷ old.tops) (root_top r)
  kept_top r is = ⊎_elim
      (λ e. subst (λ y. Contains (root_top (kept_root root high) ∷ old.tops) (root_top y)) e (first_among (root_top (kept_root root high)) old.tops))
      (λ more. next_among (root_top (kept_root root high)) (root_top r) old.tops (Rattle.fo_cells_epochs.proofs.Trees.root_among trees r more))
      (among_cases (kept_root root high) roots r is)

  new_top : (rs : List Root) → ((r : Root) → Contains rs r → Contains (kept_root root high ∷ roots) r) → (t : Top) → Contains (after ++ map root_top rs) t → Stands mid t.at t.place
  new_top rs inside t is = ⊎_elim
      (λ a. mid_top t (active_top t a))
      (λ r. let (y, among, e) = among_map root_top rs t r in subst (λ (z : Top). Stands mid z.at z.place) e (mid_top (root_top y) (kept_top y (inside y among))))
      (Contains-append_cases after (map root_top rs) t is)

  begun_kept : IsKept (begun mid after (kept_root root high ∷ roots))
  begun_kept = from_kept (after ++ map root_top (kept_root root high ∷ roots)) (new_top (kept_root root high ∷ roots) (λ r is. is)) mid_kept

  counted_written : (a : ℕ) (c : Content) → Contains (written mid a) c → Contains (written old a) c
  counted_written a c is = ⊎_elim
      (λ one. subst (λ y. Contains (written old y) c) (sym one) (subst (λ (cs : List Content). Contains cs c) (sym (written_is old 1 x.counts.same.settled)) (x.counts.versions c (subst (λ (cs : List Content). Contains cs c) (written_is mid 1 (at_b 1 x.counts.same.newborn ∙ x.counts.same.settled)) (subst (λ y. Contains (written mid y) c) one is)))))
      (λ ne. written_other x.counts.same a c ne is)
      (cases_eq a 1)

  lower_trees : HasTrees (begun mid after roots) high after roots
  lower_trees =
      let keeps : KeepsTrees old (begun mid after roots) active after roots = record {
        tops = refl;
        fewer = fewer;
        low = x.counts.same.low;
        may = λ a j b s m e. inl (may_counted x.counts a j s m);
        label = λ b q st. inl (at_b b x.counts.same.label);
        labels = λ b l is. inl (subst (λ (f : ℕ → List Label). Contains (f b) l) x.counts.same.labels is);
        written = λ a i b c is e. inl (c, counted_written a c is, e);
      } in
      trees_step keeps trees (from_kept (after ++ map root_top roots) (new_top roots (λ r is. next_among (kept_root root high) r roots is)) mid_kept)

  not_super : (b : ℕ) (q : Place) → IsBelow old high active b q → b ≢ 1
  not_super b q is e =
      let one = safe.kept.one 1 q super_place (subst (λ y. Stands old y q) e (active_stands trees b q is.stands)) (stands_top super_top safe.top) in
      let r : q.rank ≡ 2145 = ap (λ (p : Place). p.rank) one in
      let low = is.rank in
      omega (arith, r, low)

  is_below : (path : List (ℕ × Slot)) (a : ℕ) (p : Place) (b : ℕ) (q : Place) → IsBelow old high active a p → Leads mid path a p b q → IsBelow old high active b q
  is_below [] a p b q is l = subst (λ y. IsBelow old high active y q) l.0 (subst (λ y. IsBelow old high active a y) l.1 is)
  is_below ((i, s) ∷ path) a p b q is l =
      let m = may_counted x.counts a i s l.0 in
      let ne = not_super a p is in
      let falls = safe.kept.falls a i l.1.0 s p (active_stands trees a p is.stands) m l.1.1 in
      let rank = is.rank in
      let epochs = safe.epochs a i l.1.0 s p ne (active_stands trees a p is.stands) m l.1.1 in
      let epoch = is.epoch in
      is_below path l.1.0 (place_below p i s) b q (record {
        stands = stands_below i s l.1.0 is.stands m l.1.1;
        rank = omega (arith, falls, rank);
        epoch = omega (arith, epochs, epoch);
      }) l.1.2

  root_below : (b : ℕ) (q : Place) → Stands (tree_of mid (kept_root root high)) b q → IsBelow old high active b q
  root_below b q st =
      let is = only_one (root_top (kept_root root high)) st.top st.is_top in
      let high_is = (supers.root (old.memory 1) 0 root (first_among (old.memory 1) (old.versions 1)) root_led).2 ∙ supers.high_is in
      is_below st.path root root_place b q (record { stands = root_active; rank = omega arith; epoch = subst (λ n. n ≤ high) (sym high_is) (omega arith) }) (subst (λ (t : Top). Leads mid st.path t.at t.place b q) (sym is) st.leads)

  held_root : (b : ℕ) (q : Place) → Stands (tree_of mid (kept_root root high)) b q → (b ≢ 1) × IsHeldAt high (mid.label b) × ((l : Label) → Contains (mid.labels b) l → IsHeldAt high l)
  held_root b q st =
      let is = root_below b q st in
      let ne = not_super b q is in
      let live = trees.live b q ne is.stands in
      let held : IsHeldAt high (old.label b) = record {
        begun = is.epoch;
        used = λ free. let y : Live ≡ Free = sym live ∙ free in absurd (cc);
        later = λ closed. let y : Live ≡ Closed = sym live ∙ closed in absurd (cc);
      } in (
        ne,
        subst (λ (l : Label). IsHeldAt high l) (sym (at_b b x.counts.same.label)) held,
        λ l is_l. subst (λ (y : Label). IsHeldAt high y) (sym ((x.settled b q ne (active_stands trees b q is.stands)).1 l (subst (λ (f : ℕ → List Label). Contains (f b) l) x.counts.same.labels is_l))) held,
      )

  pub begun_trees : HasTrees (begun mid after (kept_root root high ∷ roots)) (suc high) after (kept_root root high ∷ roots)
  begun_trees = record {
    tops = refl;
    top = fewer.top;
    kept = λ r is. ⊎_elim
        (λ e. subst (λ y. (mid.low ≤ y.epoch) × (y.epoch < suc high)) e (subst (λ n. n ≤ high) (sym x.counts.same.low) x.low, omega arith))
        (λ more. let k = lower_trees.kept r more in let lt = k.1 in (k.0, omega (arith, lt)))
        (among_cases (kept_root root high) roots r is);
    late = λ r b q is st. ⊎_elim
        (λ e. subst (λ y. (b ≢ 1) × IsHeldAt y.epoch (mid.label b) × ((l : Label) → Contains (mid.labels b) l → IsHeldAt y.epoch l)) e (held_root b q (subst (λ y. Stands (tree_of mid y) b q) (sym e) st)))
        (λ more. lower_trees.late r b q more st)
        (among_cases (kept_root root high) roots r is);
    live = lower_trees.live;
    named = lower_trees.named;
  }

  pub begun_roots : high_of d ≡ suc high → HasRoots (begun mid after (kept_root root high ∷ roots)) (suc high) high_of
  begun_roots high_d = record {
    root = λ c i b among e.
        let is : c ≡ d = ⊎_elim (λ m. sym m ∙ x.counts.here) (λ v. x.counts.quiet c (x.counts.versions c v)) (among_cases (mid.memory 1) (mid.versions 1) c among) in
        let r = supers.root d i b (next_among (old.memory 1) d (old.versions 1) x.counts.some) (ap (λ (y : Content). target (y.slot i)) (sym is) ∙ e) in (
          r.0,
          ap (λ (y : Content). y.slot i) is ∙ r.1,
          ap (λ (y : Label). y.epoch) (at_b b x.counts.same.label) ∙ r.2 ∙ ap high_of (sym is),
          λ l in_l. let y = r.3 l (subst (λ (f : ℕ → List Label). Contains (f b) l) x.counts.same.labels in_l) in (y.0, y.1 ∙ ap high_of (sym is)),
        );
    high_is = ap high_of x.counts.here ∙ high_d;
  }

  -- all that block 1 leads to is of an epoch up to the new one
  one_slot : (i : ℕ) (s : Slot) → MaySlot mid 1 i s → s ≡ d.slot i
  one_slot i s m = ⊎_elim
      (λ has. sym has.is ∙ ap (λ (c : Content). c.slot i) (x.counts.quiet has.content (x.counts.versions has.content (subst (λ (cs : List Content). Contains cs has.content) (seen_is mid 1 (at_b 1 x.counts.same.newborn ∙ x.counts.same.settled)) has.among))))
      (λ r. ⊎_elim
      (λ is. is ∙ ap (λ (c : Content). c.slot i) x.counts.here)
      (λ c. absurd (x.unclear 1 i c.0 (subst (λ (cs : List Clear). IsClear cs 1 i c.0) x.counts.same.clears c.1)))
      r)
      m

  epochs_up : (path : List (ℕ × Slot)) (a : ℕ) (p : Place) (b : ℕ) (q : Place) → Stands old a p → (a ≢ 1 → (old.label a).epoch ≤ suc high) → Leads mid path a p b q → b ≢ 1 → (old.label b).epoch ≤ suc high
  epochs_up [] a p b q st up l ne = subst (λ y. (old.label y).epoch ≤ suc high) l.0 (up (λ e. ne (sym l.0 ∙ e)))
  epochs_up ((i, s) ∷ path) a p b q st up l ne =
      let m = may_counted x.counts a i s l.0 in
      epochs_up path l.1.0 (place_below p i s) b q (stands_below i s l.1.0 st m l.1.1) (λ other. ⊎_elim
      (λ one.
      let is : s ≡ d.slot i = one_slot i s (subst (λ y. MaySlot mid y i s) one l.0) in
      let c_is = x.now i l.1.0 (ap target (sym is) ∙ l.1.1) in
      subst (λ n. n ≤ suc high) (sym (ap (λ y. (old.label y).epoch) c_is ∙ x.epoch)) (omega arith))
      (λ far. let below = safe.epochs a i l.1.0 s p far st m l.1.1 in let above = up far in omega (arith, below, above))
      (cases_eq a 1)) l.1.2 ne

  begun_live : (b : ℕ) → b ≢ 1 → Reaches mid.memory (to_block 1) b → IsLive (suc high) (mid.label b)
  begun_live b ne r =
      let alone : IsKept (from_tops mid (super_top ∷ []) mid.low) = from_kept (super_top ∷ []) (λ t is. mid_top t (subst (λ (y : Top). Contains (root_top (kept_root root high) ∷ old.tops) y) (only_one super_top t is) (active_top super_top fewer.top))) mid_kept in
      let found = Rattle.fo_crash.proofs.Places.stands_below super_place (placed (from_tops mid (super_top ∷ []) mid.low) mid.memory (memory_may (from_tops mid (super_top ∷ []) mid.low))) (ranked alone mid.memory (memory_may (from_tops mid (super_top ∷ []) mid.low))) (stands_top super_top (first_among super_top [])) r in
      let st : Stands (from_tops mid (super_top ∷ []) mid.low) b found.0 = found.1 in
      let wide : Stands (view (begun mid after roots) after) b found.0 = stands_by (λ t is. stands_top t (subst (λ (y : Top). Contains after y) (only_one super_top t is) fewer.top)) (λ a i s p c s_st m e. stands_below i s c s_st m e) b found.0 st in
      let one = only_one super_top st.top st.is_top in (
        lower_trees.live b found.0 ne wide,
        subst (λ (l : Label). l.epoch ≤ suc high) (sym (at_b b x.counts.same.label)) (epochs_up st.path 1 super_place b found.0 (stands_top super_top safe.top) (λ other. absurd (other refl)) (subst (λ (t : Top). Leads mid st.path t.at t.place b found.0) (sym one) st.leads) ne),
      )

  pub begun_safe : IsSafe (begun mid after (kept_root root high ∷ roots)) (suc high) (λ c. ⊥)
  begun_safe =
      let back : (b : ℕ) (q : Place) → Stands (begun mid after (kept_root root high ∷ roots)) b q → Stands old b q = λ b q st. mid_old b q (from_stands (after ++ map root_top (kept_root root high ∷ roots)) mid.low (new_top (kept_root root high ∷ roots) (λ r is. is)) b q st) in record {
        kept = begun_kept;
        of_device = record {
          blocks = λ b q st. x.counts.same.some.versions b (safe.of_device.blocks b q (back b q st));
          labels = λ b q ne st. x.counts.same.some.labels b (safe.of_device.labels b q ne (back b q st));
        };
        top = Contains-append_left after (map root_top (kept_root root high ∷ roots)) super_top fewer.top;
        old = λ b q ne st young.
            let s = (x.settled b q ne (back b q st)).0 in
            let p : IsSet (from_tops old (root_top (kept_root root high) ∷ old.tops) old.low) b = record { newborn = s.newborn; versions = s.versions; clears = s.clears } in
            let n = set_beside x.counts.same b ne p in
            record { newborn = n.newborn; versions = n.versions; clears = n.clears };
        epochs = λ a i b s p ne st m e. subst (λ (l : Label). l.epoch ≤ (mid.label a).epoch) (sym (at_b b x.counts.same.label)) (subst (λ (l : Label). (old.label b).epoch ≤ l.epoch) (sym (at_b a x.counts.same.label)) (safe.epochs a i b s p ne (back a p st) (may_counted x.counts a i s m) e));
        live = begun_live;
        settled = at_b 1 x.counts.same.newborn ∙ x.counts.same.settled;
        supers = record { versions = (counts_doubt x.counts).versions };
        waits = λ leaf on j is.
            let m = safe.waits leaf on j (subst (λ (ws : List Wait). IsWait ws leaf on j) x.counts.same.waits is) in
            (at_b leaf x.counts.same.newborn ∙ m.0, m.1, m.2, x.counts.same.some.versions leaf m.3, λ p q sp sq. m.4 p q (back leaf p sp) (back on q sq));
        clears = λ b i leaf is. absurd (x.unclear b i leaf (subst (λ (cs : List Clear). IsClear cs b i leaf) x.counts.same.clears is));
      }

-- THE LOW EPOCH RISES
module _ {low : ℕ} {k : Known} {high : ℕ} {active : List Top} {roots kept : List Root} (trees : HasTrees k high active roots) (x : RaisesLow low roots kept) where
  raised_top : (t : Top) → Contains (active ++ map root_top kept) t → Stands k t.at t.place
  raised_top t is = ⊎_elim
      (λ a. stands_top t (Rattle.fo_cells_epochs.proofs.Trees.active_among trees t a))
      (λ r. let (y, among, e) = among_map root_top kept t r in subst (λ (z : Top). Stands k z.at z.place) e (stands_top (root_top y) (Rattle.fo_cells_epochs.proofs.Trees.root_among trees y (x.each y among).0)))
      (Contains-append_cases active (map root_top kept) t is)

  same_view : (ts : List Top) (b : ℕ) (q : Place) → Stands (view (from_tops k (active ++ map root_top kept) low) ts) b q → Stands (view k ts) b q
  same_view ts = stands_by (λ t is. stands_top t is) (λ a i s p b st m e. stands_below i s b st m e)

  -- what stands, stands in the active trees or in a kept one
  in_one : (b : ℕ) (q : Place) → Stands (from_tops k (active ++ map root_top kept) low) b q → Stands (view k active) b q ⊎ ((r : Root) × Contains kept r × Stands (tree_of k r) b q)
  in_one b q st = ⊎_elim
      (λ a. inl (record { top = st.top; is_top = a; path = st.path; leads = st.leads }))
      (λ r. let (y, among, e) = among_map root_top kept st.top r in inr (y, among, record { top = st.top; is_top = subst (λ (t : Top). Contains (root_top y ∷ []) t) e (first_among (root_top y) []); path = st.path; leads = st.leads }))
      (Contains-append_cases active (map root_top kept) st.top st.is_top)

  raised_back : (b : ℕ) (q : Place) → Stands (from_tops k (active ++ map root_top kept) low) b q → Stands k b q
  raised_back = from_stands (active ++ map root_top kept) low raised_top

  raised_kept : IsKept k → IsKept (from_tops k (active ++ map root_top kept) low)
  raised_kept was = record {
    one = λ b p q y z. was.one b p q (raised_back b p y) (raised_back b q z);
    falls = λ a i b s p st m e. was.falls a i b s p (raised_back a p st) m e;
    labelled = λ b p ne st.
        let l = was.labelled b p ne (raised_back b p st) in (
          l.0,
          l.1,
          ⊎_elim
              (λ a. live_kept low (k.label b) (trees.live b p ne a))
              (λ r. held_kept low (r.0).epoch (k.label b) (x.each r.0 r.1).1 (trees.late r.0 b p (x.each r.0 r.1).0 r.2).1)
              (in_one b p st),
        );
    named = λ a i t c p st w e.
        let n = was.named a i t c p (raised_back a p st) w e in (
          n.0,
          record {
            settled = n.1.settled;
            labels = λ l is.
                let f = n.1.labels l is in record {
                  kind = f.kind;
                  tag = f.tag;
                  epoch = f.epoch;
                  kept = ⊎_elim
                      (λ s. live_kept low l (trees.named a i t c p s w e l is))
                      (λ r. held_kept low (r.0).epoch l (x.each r.0 r.1).1 ((trees.late r.0 t (place_below p i (c.slot i)) (x.each r.0 r.1).0 (stands_below i (c.slot i) t r.2 (written_may (tree_of k r.0) a i c w) e)).2 l is))
                      (in_one a p st);
                };
          },
        );
  }

  pub raised_safe : {doubt : Content → Type 0} → IsSafe k high doubt → IsSafe (from_tops k (active ++ map root_top kept) low) high doubt
  raised_safe safe = from_safe (active ++ map root_top kept) low raised_top (Contains-append_left active (map root_top kept) super_top trees.top) (raised_kept safe.kept) safe

  pub raised_trees : HasTrees (from_tops k (active ++ map root_top kept) low) high active kept
  raised_trees = record {
    tops = refl;
    top = trees.top;
    kept = λ r is. ((x.each r is).1, (trees.kept r (x.each r is).0).1);
    late = λ r b q is st. trees.late r b q (x.each r is).0 (same_view (root_top r ∷ []) b q st);
    live = λ b q ne st. trees.live b q ne (same_view active b q st);
    named = λ a i t c p st w e. trees.named a i t c p (same_view active a p st) w e;
  }

  pub raised_roots : {high_of : Content → ℕ} → HasRoots k high high_of → HasRoots (from_tops k (active ++ map root_top kept) low) high high_of
  raised_roots r = record { root = r.root; high_is = r.high_is }
