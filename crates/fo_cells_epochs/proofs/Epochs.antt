-- The invariant with snapshots is kept by each step.
use Rattle.std.proofs.Common.{◌≡◌, ◌≢◌, ◌⊎◌, inl, inr, ⊎_elim, ℕ, ◌≤◌, List, [], ◌∷◌, ◌++◌, map, refl, sym, ◌∙◌, ap, subst}
use Rattle.std.proofs.lemmas.Bool.{cases_eq}
use Rattle.std.specs.List.{Contains}
use Rattle.fo_image.specs.declared.types.Label.{Label}
use Rattle.fo_image.specs.declared.types.State.TheVariants.{Live}
use Rattle.fo_image.specs.declared.types.Pointer.TheVariants.{Local}
use Rattle.fo_crash.specs.declared.place.Place.{Place}
use Rattle.fo_crash.specs.Images.{Content, SameContent, Reaches, target, to_block}
use Rattle.fo_crash.specs.Places.{super_place, place_below}
use Rattle.fo_crash.proofs.Reach.{same_walk}
use Rattle.fo_cells.specs.Known.{Known, Top, IsWait, IsKept, Stands}
use Rattle.fo_cells.specs.Writes.{Gives}
use Rattle.fo_cells.specs.Calls.{Indexes, TriesSuper, CountsSuper, HasSupers}
use Rattle.fo_cells.specs.Safe.{super_top, IsLive, IsSafe, KeepsSafe}
use Rattle.fo_cells.specs.Laws.{NoWait}
use Rattle.fo_cells.proofs.Known.{memory_may, placed, ranked}
use Rattle.fo_cells.proofs.Standing.{at_b, stands_top, among_cases, first_among, next_among}
use Rattle.fo_cells.proofs.Safe.{safe_step}
use Rattle.fo_cells.proofs.SafeCalls.{give_over, tries_safe, counts_safe}
use Rattle.fo_cells.proofs.Giving.{stood}
use Rattle.fo_cells.proofs.Indexing.{index_safe}
use Rattle.fo_cells_out.specs.Parents.{view}
use Rattle.fo_cells_epochs.specs.Epochs.{Root, root_top, HasTrees, IsRead, IsLabelSet, KeepsTrees, MovesTop, HasEpochs}
use Rattle.fo_cells_epochs.proofs.Trees.{active_stands, active_among, trees_step, roots_step, old_root_stands}
use Rattle.fo_cells_epochs.proofs.TreeSteps.{tries_trees, counts_trees}
use Rattle.fo_cells_epochs.proofs.Made.{give_trees, index_trees}

pub with_doubt : {k : Known} {high : ℕ} {before after : Content → Type 0} → HasSupers k after → IsSafe k high before → IsSafe k high after
with_doubt {k} {high} {before} {after} supers safe = record {
  kept = safe.kept;
  of_device = safe.of_device;
  top = safe.top;
  old = safe.old;
  epochs = safe.epochs;
  live = safe.live;
  settled = safe.settled;
  supers = supers;
  waits = safe.waits;
  clears = safe.clears;
}

pub by_trees : {old new : Known} {high : ℕ} {high_of : Content → ℕ} {doubts : List Content} {before after : List Top} {roots : List Root} → KeepsSafe old new high → KeepsTrees old new before after roots → IsRead high_of → HasEpochs old high high_of doubts before roots → HasEpochs new high high_of doubts after roots
by_trees k s read h =
    let safe = safe_step k h.safe in record {
      safe = safe;
      trees = trees_step s h.trees safe.kept;
      supers = roots_step s h.trees read k.supers h.safe.settled h.supers;
    }

-- A BLOCK IS GIVEN OUT
pub give_epochs : {at : ℕ} {c : Content} {p : Place} {old new : Known} {high : ℕ} {high_of : Content → ℕ} {doubts : List Content} {active : List Top} {roots : List Root} → Gives at c p old new → at ≢ 1 → high ≤ (new.label at).epoch → (new.label at).state ≡ Live → ((i t : ℕ) → target (c.slot i) ≡ Local t → (old.label t).epoch ≤ (new.label at).epoch × Stands (view old active) t (place_below p i (c.slot i))) → new.tops ≡ record { at = at; place = p } ∷ active ++ map root_top roots → NoWait old new → IsRead high_of → HasEpochs old high high_of doubts active roots → HasEpochs new high high_of doubts (record { at = at; place = p } ∷ active) roots
give_epochs {at} {c} {p} {old} {new} {high} {high_of} {doubts} {active} {roots} g other up live below tops waits read h =
    let kept_top : Contains old.tops super_top → Contains new.tops super_top = λ was. subst (λ (ts : List Top). Contains ts super_top) (sym tops) (next_among (record { at = at; place = p }) super_top (active ++ map root_top roots) (subst (λ (ts : List Top). Contains ts super_top) h.trees.tops was)) in record {
      safe = give_over g other up (λ i t e. (below i t e).0) kept_top waits h.safe;
      trees = give_trees g h.trees (λ i t e. (below i t e).1) tops live;
      supers = record {
        root = λ c i b among e.
            let d = was c among in
            let led : target ((d.0).slot i) ≡ Local b = ap target (sym (d.2.slots i)) ∙ e in
            let r = h.supers.root d.0 i b d.1 led in
            let away = stood g b (place_below super_place i ((d.0).slot i)) (active_stands h.trees b (place_below super_place i ((d.0).slot i)) (old_root_stands h.trees h.safe.settled d.0 i b d.1 led)) in
            let is_high : high_of c ≡ high_of d.0 = read c d.0 d.2 in (
              r.0,
              d.2.slots i ∙ r.1,
              ap (λ (x : Label). x.epoch) (g.label b away) ∙ r.2 ∙ sym is_high,
              λ l is. let x = r.3 l (subst (λ (f : ℕ → List Label). Contains (f b) l) g.labels is) in (x.0, x.1 ∙ sym is_high),
            );
        high_is = read (new.memory 1) (old.memory 1) (g.memory.others 1 (λ e. other (sym e))) ∙ h.supers.high_is;
      };
    }
  where
    was : (c : Content) → Contains (new.memory 1 ∷ new.versions 1) c → (d : Content) × Contains (old.memory 1 ∷ old.versions 1) d × SameContent c d
    was c among = ⊎_elim
        (λ m. (old.memory 1, first_among (old.memory 1) (old.versions 1), subst (λ (x : Content). SameContent x (old.memory 1)) m (g.memory.others 1 (λ e. other (sym e)))))
        (λ v. (c, next_among (old.memory 1) c (old.versions 1) (subst (λ (cs : List Content). Contains cs c) (at_b 1 g.versions) v), Rattle.fo_crash.proofs.Sure.same_if refl))
        (among_cases (new.memory 1) (new.versions 1) c among)

-- ONE THAT WAS MADE GETS ITS INDEX
pub index_epochs : {at : ℕ} {q : Place} {old new : Known} {high : ℕ} {high_of : Content → ℕ} {doubts : List Content} {active after : List Top} {roots : List Root} → Indexes at q old new → MovesTop at q active after → new.tops ≡ after ++ map root_top roots → (old.label at).epoch ≡ high → ((r : Place) × Stands (view old active) at r) → ((leaf on j : ℕ) → IsWait old.waits leaf on j → (leaf ≢ at) × (on ≢ at)) → HasEpochs old high high_of doubts active roots → HasEpochs new high high_of doubts after roots
index_epochs {at} {q} {old} {new} {high} {high_of} {doubts} {active} {after} {roots} x moves tops epoch stand unwaited h = record {
  safe = index_safe x (λ was. subst (λ (ts : List Top). Contains ts super_top) (sym tops) (Rattle.std.proofs.lemmas.List.Elements.Contains-append_left after (map root_top roots) super_top moves.top)) epoch unwaited h.safe;
  trees = index_trees x h.trees moves stand tops;
  supers = record {
    root = λ c i b among e.
        let r = h.supers.root c i b (⊎_elim
        (λ m. subst (λ (y : Content). Contains (old.memory 1 ∷ old.versions 1) y) (sym (at_b 1 x.memory) ∙ m) (first_among (old.memory 1) (old.versions 1)))
        (λ v. next_among (old.memory 1) c (old.versions 1) (subst (λ (cs : List Content). Contains cs c) (at_b 1 x.device.versions) v))
        (among_cases (new.memory 1) (new.versions 1) c among)) e in (
          r.0,
          r.1,
          ap (λ (y : Label). y.epoch) (at_b b x.label) ∙ r.2,
          λ l is. r.3 l (subst (λ (f : ℕ → List Label). Contains (f b) l) x.device.labels is),
        );
    high_is = ap high_of (at_b 1 x.memory) ∙ h.supers.high_is;
  };
}

-- A SUPER BLOCK IS TRIED
pub tries_epochs : {d : Content} {old new : Known} {high : ℕ} {high_of : Content → ℕ} {doubts : List Content} {active : List Top} {roots : List Root} → TriesSuper d old new → ((i b : ℕ) → target (d.slot i) ≡ Local b → (d.slot i ≡ to_block b) × ((old.label b).epoch ≡ high_of d) × ((q : Place) × Stands (view old active) b q) × IsLabelSet old b) → HasEpochs old high high_of doubts active roots → HasEpochs new high high_of (d ∷ []) active roots
tries_epochs {d} {old} {new} {high} {high_of} {doubts} {active} {roots} t names h =
    let tried = tries_safe t h.safe in
    let doubt : HasSupers new (λ c. Contains (d ∷ []) c) = record {
      versions = λ c v. ⊎_elim
          (λ was. inl (Rattle.fo_crash.proofs.Sure.same_if (t.quiet c was ∙ sym t.here)))
          (λ is. inr (subst (λ (y : Content). Contains (d ∷ []) y) (sym is) (first_among d [])))
          (t.versions c v);
    } in
    record {
      safe = with_doubt doubt tried;
      trees = trees_step (tries_trees h.trees t h.safe.kept (λ i b e. ((names i b e).2, (names i b e).3))) h.trees tried.kept;
      supers = record {
        root = λ c i b among e. ⊎_elim
            (λ was. let r = h.supers.root c i b was e in (
              r.0,
              r.1,
              ap (λ (y : Label). y.epoch) (at_b b t.same.label) ∙ r.2,
              λ l is. r.3 l (subst (λ (f : ℕ → List Label). Contains (f b) l) t.same.labels is),
            ))
            (λ is.
            let led : target (d.slot i) ≡ Local b = ap (λ (y : Content). target (y.slot i)) (sym is) ∙ e in
            let n = names i b led in
            let ne = (t.fits super_place i b (active_stands h.trees 1 super_place (stands_top super_top h.trees.top)) led).2 in
            let live = h.trees.live b (n.2).0 ne (n.2).1 in (
              ne,
              ap (λ (y : Content). y.slot i) is ∙ n.0,
              ap (λ (y : Label). y.epoch) (at_b b t.same.label) ∙ n.1 ∙ ap high_of (sym is),
              λ l in_l. let e_l = n.3 l (subst (λ (f : ℕ → List Label). Contains (f b) l) t.same.labels in_l) in (ap (λ (y : Label). y.state) e_l ∙ live, ap (λ (y : Label). y.epoch) e_l ∙ n.1 ∙ ap high_of (sym is)),
            ))
            (where_was c among);
        high_is = ap high_of t.here ∙ h.supers.high_is;
      };
    }
  where
    where_was : (c : Content) → Contains (new.memory 1 ∷ new.versions 1) c → Contains (old.memory 1 ∷ old.versions 1) c ⊎ (c ≡ d)
    where_was c among = ⊎_elim
        (λ m. inl (subst (λ (y : Content). Contains (old.memory 1 ∷ old.versions 1) y) (sym t.here ∙ m) (first_among (old.memory 1) (old.versions 1))))
        (λ v. ⊎_elim (λ was. inl (next_among (old.memory 1) c (old.versions 1) was)) (λ is. inr is) (t.versions c v))
        (among_cases (new.memory 1) (new.versions 1) c among)

-- IT COUNTS, of the same epoch
pub counts_epochs : {d : Content} {old new : Known} {high : ℕ} {high_of : Content → ℕ} {doubts : List Content} {active : List Top} {roots : List Root} → CountsSuper d old new → high_of d ≡ high → ((i : ℕ) → d.slot i ≡ (old.memory 1).slot i) → HasEpochs old high high_of doubts active roots → HasEpochs new high high_of [] active roots
counts_epochs {d} {old} {new} {high} {high_of} {doubts} {active} {roots} t high_d slots h =
    let counted = counts_safe t live h.safe in record {
      safe = with_doubt (record { versions = λ c v. inl (Rattle.fo_crash.proofs.Sure.same_if (t.quiet c (t.versions c v) ∙ sym t.here)) }) counted;
      trees = trees_step (counts_trees h.trees t) h.trees counted.kept;
      supers = record {
        root = λ c i b among e.
            let is : c ≡ d = ⊎_elim (λ m. sym m ∙ t.here) (λ v. t.quiet c (t.versions c v)) (among_cases (new.memory 1) (new.versions 1) c among) in
            let r = h.supers.root d i b (next_among (old.memory 1) d (old.versions 1) t.some) (ap (λ (y : Content). target (y.slot i)) (sym is) ∙ e) in (
              r.0,
              ap (λ (y : Content). y.slot i) is ∙ r.1,
              ap (λ (y : Label). y.epoch) (at_b b t.same.label) ∙ r.2 ∙ ap high_of (sym is),
              λ l in_l. let y = r.3 l (subst (λ (f : ℕ → List Label). Contains (f b) l) t.same.labels in_l) in (y.0, y.1 ∙ ap high_of (sym is)),
            );
        high_is = ap high_of t.here ∙ high_d;
      };
    }
  where
    same : (a i : ℕ) → (old.memory a).slot i ≡ (new.memory a).slot i
    same a i = ⊎_elim
        (λ e. subst (λ y. (old.memory y).slot i ≡ (new.memory y).slot i) (sym e) (sym (slots i) ∙ ap (λ (c : Content). c.slot i) (sym t.here)))
        (λ ne. ap (λ (c : Content). c.slot i) (sym (t.same.memory a ne)))
        (cases_eq a 1)

    live : (b : ℕ) → b ≢ 1 → Reaches new.memory (to_block 1) b → IsLive high (old.label b)
    live b ne r = h.safe.live b ne (record { path = r.path; leads = ap target (same_walk old.memory new.memory same r.path (to_block 1)) ∙ r.leads })

-- what stands in no active tree is not in the tree of memory
pub outside_memory : {k : Known} {high : ℕ} {doubt : Content → Type 0} {active : List Top} {roots : List Root} → IsSafe k high doubt → HasTrees k high active roots → (b : ℕ) → ((p : Place) → Stands (view k active) b p → ⊥) → Reaches k.memory (to_block 1) b → ⊥
outside_memory {k} {high} {doubt} {active} safe trees b nowhere r =
    let kept : IsKept (view k active) = Rattle.fo_cells_out.proofs.Steps.view_kept k active (active_among trees) safe.kept in
    let found = Rattle.fo_crash.proofs.Places.stands_below super_place (placed (view k active) k.memory (memory_may (view k active))) (ranked kept k.memory (memory_may (view k active))) (stands_top super_top trees.top) r in
    nowhere found.0 found.1
