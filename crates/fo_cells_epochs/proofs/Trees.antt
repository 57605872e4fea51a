-- The trees and the roots are kept by each step after which nothing stands anew.
use Rattle.std.proofs.Common.{◌≡◌, ◌≢◌, inl, inr, ⊎_elim, ℕ, ◌≤◌, false, List, [], ◌∷◌, map, refl, sym, ◌∙◌, ap, subst, arith}
use Rattle.std.proofs.lemmas.List.Elements.{Contains-append_left, Contains-append_right}
use Rattle.std.specs.List.{Contains}
use Rattle.fo_image.specs.declared.types.Label.{Label}
use Rattle.fo_image.specs.declared.types.State.TheVariants.{Live}
use Rattle.fo_image.specs.declared.types.Pointer.TheVariants.{Local}
use Rattle.fo_crash.specs.declared.place.Place.{Place}
use Rattle.fo_crash.specs.Images.{Content, SameContent, target}
use Rattle.fo_crash.specs.Places.{super_place, place_below}
use Rattle.fo_crash.proofs.Sure.{same_if}
use Rattle.fo_cells.specs.Known.{Known, Top, MaySlot, IsKept, Stands}
use Rattle.fo_cells.specs.Calls.{SuperStays}
use Rattle.fo_cells.specs.Safe.{super_top}
use Rattle.fo_cells.proofs.Standing.{stands_by, stands_top, stands_below, seen_is, written_may, among_cases, first_among, next_among}
use Rattle.fo_cells.proofs.Calls.{map_among}
use Rattle.fo_cells_out.specs.Parents.{view}
use Rattle.fo_cells_out.proofs.Steps.{view_stands}
use Rattle.fo_cells_epochs.specs.Epochs.{Root, root_top, tree_of, IsHeldAt, HasTrees, HasRoots, IsRead, KeepsTrees}

-- tops of the whole
pub active_among : {k : Known} {high : ℕ} {active : List Top} {roots : List Root} → HasTrees k high active roots → (t : Top) → Contains active t → Contains k.tops t
active_among {k} {high} {active} {roots} h t is = subst (λ (ts : List Top). Contains ts t) (sym h.tops) (Contains-append_left active (map root_top roots) t is)

pub root_among : {k : Known} {high : ℕ} {active : List Top} {roots : List Root} → HasTrees k high active roots → (r : Root) → Contains roots r → Contains k.tops (root_top r)
root_among {k} {high} {active} {roots} h r is = subst (λ (ts : List Top). Contains ts (root_top r)) (sym h.tops) (Contains-append_right active (map root_top roots) (root_top r) (map_among root_top roots r is))

pub only_one : (x y : Top) → Contains (x ∷ []) y → x ≡ y
only_one x y h = ⊎_elim (λ e. e) (λ more. absurd (none more)) (among_cases x [] y h)
  where
    none : Contains [] y → ⊥
    none (n, lt, is) = omega arith

-- what stands in one of the trees, stands
pub active_stands : {k : Known} {high : ℕ} {active : List Top} {roots : List Root} → HasTrees k high active roots → (b : ℕ) (q : Place) → Stands (view k active) b q → Stands k b q
active_stands {k} {high} {active} h = view_stands k active (active_among h)

pub tree_stands : {k : Known} {high : ℕ} {active : List Top} {roots : List Root} → HasTrees k high active roots → (r : Root) → Contains roots r → (b : ℕ) (q : Place) → Stands (tree_of k r) b q → Stands k b q
tree_stands {k} h r is = view_stands k (root_top r ∷ []) (λ t among. subst (λ (x : Top). Contains k.tops x) (only_one (root_top r) t among) (root_among h r is))

-- what a super block names stands in the active trees
pub old_root_stands : {k : Known} {high : ℕ} {active : List Top} {roots : List Root} → HasTrees k high active roots → k.newborn 1 ≡ false → (c : Content) (i b : ℕ) → Contains (k.memory 1 ∷ k.versions 1) c → target (c.slot i) ≡ Local b → Stands (view k active) b (place_below super_place i (c.slot i))
old_root_stands {k} {high} {active} h settled c i b among e =
    let here : Stands (view k active) 1 super_place = stands_top super_top h.top in
    let may : MaySlot (view k active) 1 i (c.slot i) = ⊎_elim
    (λ memory. inr (inl (ap (λ (x : Content). x.slot i) (sym memory))))
    (λ more. inl (record { content = c; among = subst (λ (cs : List Content). Contains cs c) (sym (seen_is k 1 settled)) more; is = refl }))
    (among_cases (k.memory 1) (k.versions 1) c among) in
    stands_below i (c.slot i) b here may e

module _ {old new : Known} {before after : List Top} {roots : List Root} (s : KeepsTrees old new before after roots) where
  pub tree_still : (r : Root) → Contains roots r → (b : ℕ) (q : Place) → Stands (tree_of new r) b q → Stands (tree_of old r) b q
  tree_still r among = stands_by (λ t h. stands_top t h) (λ a i x p b st m e. ⊎_elim (λ was. stands_below i x b st was e) (λ n. absurd (n.0 r p among st)) (s.may a i b x m e))

  pub active_still : (b : ℕ) (q : Place) → Stands (view new after) b q → Stands (view old before) b q
  active_still = stands_by (λ t h. stands_top t (s.fewer.fewer t h)) (λ a i x p b st m e. ⊎_elim (λ was. stands_below i x b st was e) (λ n. n.1 p st) (s.may a i b x m e))

  module _ {high : ℕ} (h : HasTrees old high before roots) where
    -- a live block of the active trees keeps its label
    pub active_label : (b : ℕ) (q : Place) → Stands (view old before) b q → new.label b ≡ old.label b
    active_label b q st = ⊎_elim (λ same. same) (λ n. absurd (n.0 q st)) (s.label b q (active_stands h b q st))

    pub set_live : (t : ℕ) (q : Place) → t ≢ 1 → Stands (view old before) t q → ((l : Label) → Contains (old.labels t) l → l.state ≡ Live) → (l : Label) → Contains (new.labels t) l → l.state ≡ Live
    set_live t q ne st all l is = ⊎_elim (λ was. all l was) (λ e. ap (λ (x : Label). x.state) e ∙ h.live t q ne st) (s.labels t l is)

    pub trees_step : IsKept new → HasTrees new high after roots
    trees_step kept = record {
      tops = s.tops;
      top = s.fewer.top;
      kept = λ r among. (subst (λ n. n ≤ r.epoch) (sym s.low) (h.kept r among).0, (h.kept r among).1);
      late = λ r b q among st.
          let was = tree_still r among b q st in
          let l = h.late r b q among was in (
            l.0,
            ⊎_elim (λ same. subst (λ (x : Label). IsHeldAt r.epoch x) (sym same) l.1) (λ n. n.1 r among q was) (s.label b q (tree_stands h r among b q was)),
            λ x is. ⊎_elim (λ o. l.2 x o) (λ e. subst (λ (y : Label). IsHeldAt r.epoch y) (sym e) l.1) (s.labels b x is),
          );
      live = λ b q ne st. let was = active_still b q st in ap (λ (x : Label). x.state) (active_label b q was) ∙ h.live b q ne was;
      named = λ a i t c p st w e.
          let there : Stands (view new after) t (place_below p i (c.slot i)) = stands_below i (c.slot i) t st (written_may (view new after) a i c w) e in
          let was = active_still t (place_below p i (c.slot i)) there in
          let ne = (kept.named a i t c p (view_stands new after (λ x is. subst (λ (ts : List Top). Contains ts x) (sym s.tops) (Contains-append_left after (map root_top roots) x is)) a p st) w e).0 in
          set_live t (place_below p i (c.slot i)) ne was (⊎_elim
          (λ o. h.named a i t o.0 p (active_still a p st) o.1 o.2)
          (λ set. λ l is. ap (λ (x : Label). x.state) (set l is) ∙ h.live t (place_below p i (c.slot i)) ne was)
          (s.written a i t c w e));
    }

    pub roots_step : {high_of : Content → ℕ} → IsRead high_of → SuperStays old new → old.newborn 1 ≡ false → HasRoots old high high_of → HasRoots new high high_of
    roots_step {high_of} read supers settled roots_were = record {
      root = λ c i b among e.
          let w = was c among in
          let at_old : target ((w.0).slot i) ≡ Local b = ap target (sym (w.2.slots i)) ∙ e in
          let o = roots_were.root w.0 i b w.1 at_old in
          let st = old_root_stands h settled w.0 i b w.1 at_old in
          let is_high : high_of c ≡ high_of w.0 = read c w.0 w.2 in (
            o.0,
            w.2.slots i ∙ o.1,
            ap (λ (x : Label). x.epoch) (active_label b (place_below super_place i ((w.0).slot i)) st) ∙ o.2 ∙ sym is_high,
            λ l is. ⊎_elim
                (λ x. ((o.3 l x).0, (o.3 l x).1 ∙ sym is_high))
                (λ x. (ap (λ (y : Label). y.state) x ∙ h.live b (place_below super_place i ((w.0).slot i)) o.0 st, ap (λ (y : Label). y.epoch) x ∙ o.2 ∙ sym is_high))
                (s.labels b l is),
          );
      high_is = read (new.memory 1) (old.memory 1) supers.memory ∙ roots_were.high_is;
    }
      where
        was : (c : Content) → Contains (new.memory 1 ∷ new.versions 1) c → (d : Content) × Contains (old.memory 1 ∷ old.versions 1) d × SameContent c d
        was c among = ⊎_elim
            (λ memory. (old.memory 1, first_among (old.memory 1) (old.versions 1), subst (λ (x : Content). SameContent x (old.memory 1)) memory supers.memory))
            (λ more. ⊎_elim
            (λ o. (c, next_among (old.memory 1) c (old.versions 1) o, same_if refl))
            (λ same. (old.memory 1, first_among (old.memory 1) (old.versions 1), same))
            (supers.versions c more))
            (among_cases (new.memory 1) (new.versions 1) c among)
