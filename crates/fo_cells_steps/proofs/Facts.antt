-- What holds of the tree of memory at every moment.
use Rattle.std.proofs.Common.{◌≡◌, ◌⊎◌, inl, inr, ⊎_elim, ℕ, ◌<◌, zero, suc, Bool, List, refl, sym, ◌∙◌, ap, subst, arith}
use Rattle.std.specs.List.{Contains}
use Rattle.fo_disk.specs.Disk.{Content as Holds}
use Rattle.fo_image.specs.declared.types.Pointer.{Pointer}
use Rattle.fo_image.specs.declared.types.Pointer.TheVariants.{Nil, Local, Score as Held}
use Rattle.fo_crash.specs.declared.place.Place.{Place}
use Rattle.fo_crash.specs.Images.{Reaches, target, to_block}
use Rattle.fo_crash.specs.Places.{super_place, place_below}
use Rattle.fo_crash.proofs.Reach.{lost, reaches_same}
use Rattle.fo_crash.proofs.Places.{stands_below}
use Rattle.fo_cells.specs.Known.{Known, IsKept, Stands}
use Rattle.fo_cells.specs.Safe.{super_top}
use Rattle.fo_cells.specs.Device.{known}
use Rattle.fo_cells.proofs.Known.{placed, ranked, memory_may}
use Rattle.fo_cells.proofs.Standing.{stands_top}
use Rattle.fo_cells_out.specs.Parents.{view}
use Rattle.fo_cells_out.specs.Origins.{Origins, Under}
use Rattle.fo_cells_out.proofs.Steps.{view_kept}
use Rattle.fo_cells_all.proofs.of_cells_epochs.Trees.{active_among}
use Rattle.fo_cells_all.specs.All.{Kept, Format}
use Rattle.fo_cells_steps.specs.Division.{HoldsMade, division}

-- WHERE PLACES AND RANKS HOLD
module _ {k : Known} (kept : IsKept k) (top : Contains k.tops super_top) where
  -- what is reached from a block that stands at a place stands at one, lower but for that block itself
  pub found : (a b : ℕ) (p : Place) → Stands k a p → Reaches k.memory (to_block a) b → (q : Place) × Stands k b q × ((q.rank < p.rank) ⊎ ((a ≡ b) × (q ≡ p)))
  found a b p st r = stands_below p (placed k k.memory (memory_may k)) (ranked kept k.memory (memory_may k)) st r

  pub tree_stands : (b : ℕ) → Reaches k.memory (to_block 1) b → (q : Place) × Stands k b q
  tree_stands b r = let x = found 1 b super_place (stands_top super_top top) r in (x.0, x.1)

  -- no block hangs below itself
  pub no_loop : (a i : ℕ) → Reaches k.memory (to_block 1) a → Reaches k.memory ((k.memory a).slot i) a → ⊥
  no_loop a i w r =
      let st = tree_stands a w in
      one st.0 st.1 (target ((k.memory a).slot i)) refl
    where
      one : (p : Place) → Stands k a p → (x : Pointer) → target ((k.memory a).slot i) ≡ x → ⊥
      one p st Nil e = lost k.memory r.path ((k.memory a).slot i) (λ b q. let y : Nil ≡ Local b = sym e ∙ q in cc) a r.leads
      one p st (Held z) e = lost k.memory r.path ((k.memory a).slot i) (λ b q. let y : Held z ≡ Local b = sym e ∙ q in cc) a r.leads
      one p st (Local b) e =
          let fall = kept.falls a i b ((k.memory a).slot i) p st (inr (inl refl)) e in
          let there = Rattle.fo_cells.proofs.Standing.stands_below i ((k.memory a).slot i) b st (inr (inl refl)) e in
          let again = found b a (place_below p i ((k.memory a).slot i)) there (reaches_same e r) in
          let is : again.0 ≡ p = kept.one a again.0 p again.1 st in
          ⊎_elim
          (λ lt. let lt_p : p.rank < (place_below p i ((k.memory a).slot i)).rank = subst (λ (y : Place). y.rank < (place_below p i ((k.memory a).slot i)).rank) is lt in omega (arith, lt_p, fall))
          (λ same. let e_rank : (place_below p i ((k.memory a).slot i)).rank ≡ p.rank = ap (λ (y : Place). y.rank) (sym same.1 ∙ is) in omega (arith, e_rank, fall))
          again.2

  -- no slot of the tree leads to block 1
  pub never_led : (a i : ℕ) → Reaches k.memory (to_block 1) a → target ((k.memory a).slot i) ≡ Local 1 → ⊥
  never_led a i w e = no_loop a i w (reaches_same (sym e) w)

module _ {c : Kept} {f : Format} {Made : ℕ → Type 0} {h : Origins} {unsure : List Bool} {holds : Holds} (all : HoldsMade c f Made h unsure holds) where
  abbrev K : Known
  K = known c.mind holds

  abbrev V : Known
  V = view K c.active

  view_safe : IsKept V
  view_safe = view_kept K c.active (active_among all.all.epochs.trees) all.all.epochs.safe.kept

  -- what is in the tree, or hangs from what was made, stands in the active trees
  under_stands : (n y b : ℕ) (p : Place) → Stands V y p → Under V (division c Made) n y b → (q : Place) × Stands V b q
  under_stands zero y b p st q = (p, subst (λ z. Stands V z p) (sym q) st)
  under_stands (suc n) y b p st q =
      let up = under_stands n y q.0 p st q.4 in
      (place_below up.0 q.1 ((c.mind.memory q.0).slot q.1), Rattle.fo_cells.proofs.Standing.stands_below q.1 ((c.mind.memory q.0).slot q.1) b up.1 (inr (inl refl)) q.3)

  pub held_stands : (b : ℕ) → (division c Made).Within b ⊎ Made b → (q : Place) × Stands V b q
  held_stands b is = ⊎_elim
      (λ r. let x = stands_below super_place (placed V c.mind.memory (memory_may V)) (ranked view_safe c.mind.memory (memory_may V)) (stands_top super_top all.all.epochs.trees.top) r in (x.0, x.1))
      (λ m.
      let top = all.origins.hangs b m in
      let t = all.apart top.0 top.2 in
      under_stands top.1 top.0 b (t.0).place (subst (λ z. Stands V z (t.0).place) t.2 (stands_top t.0 t.1)) top.3)
      is

  -- no slot of the tree leads to block 1
  pub unled : (a i : ℕ) → Reaches c.mind.memory (to_block 1) a → target ((c.mind.memory a).slot i) ≡ Local 1 → ⊥
  unled a i w e = never_led all.all.epochs.safe.kept all.all.epochs.safe.top a i w e
