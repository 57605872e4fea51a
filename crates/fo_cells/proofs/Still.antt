-- Where the device stays and slots of memory stay, blocks stand where they stood.
use Rattle.std.proofs.Common.{◌≡◌, inl, inr, ⊎_elim, ℕ, List, sym, ◌∙◌, ap, subst}
use Rattle.std.specs.List.{Contains}
use Rattle.fo_crash.specs.declared.slot.Slot.{Slot}
use Rattle.fo_crash.specs.declared.place.Place.{Place}
use Rattle.fo_crash.specs.Images.{Content}
use Rattle.fo_crash.specs.Steps.{cleared}
use Rattle.fo_crash.proofs.Equal.{bool_cases}
use Rattle.fo_cells.specs.Known.{Known, Top, HasSlot, IsClear, MaySlot, Stands, seen}
use Rattle.fo_cells.specs.Writes.{SameDevice}
use Rattle.fo_cells.proofs.Standing.{seen_is, seen_born, next_among, among_cases, at_b, stands_by, stands_top, stands_below}

module _ {old new : Known} (device : SameDevice old new) (slots : (b j : ℕ) → (new.memory b).slot j ≡ (old.memory b).slot j) (clears : (b j leaf : ℕ) → IsClear old.clears b j leaf → IsClear new.clears b j leaf) where
  seen_still : (b j : ℕ) (s : Slot) → HasSlot (seen old b) j s → MaySlot new b j s
  seen_still b j s h = ⊎_elim
      (λ born. ⊎_elim
      (λ first. inr (inl (sym h.is ∙ ap (λ (c : Content). c.slot j) (sym first) ∙ sym (slots b j))))
      (λ more. inl (record {
        content = h.content;
        among = subst (λ (cs : List Content). Contains cs h.content) (sym (seen_born new b (at_b b device.newborn ∙ born))) (next_among (new.memory b) h.content (new.late b) (subst (λ (xs : List Content). Contains xs h.content) (sym (at_b b device.late)) more));
        is = h.is;
      }))
      (among_cases (old.memory b) (old.late b) h.content (subst (λ (cs : List Content). Contains cs h.content) (seen_born old b born) h.among)))
      (λ settled. inl (record {
        content = h.content;
        among = subst (λ (cs : List Content). Contains cs h.content) (sym (seen_is new b (at_b b device.newborn ∙ settled))) (subst (λ (xs : List Content). Contains xs h.content) (sym (at_b b device.versions)) (subst (λ (cs : List Content). Contains cs h.content) (seen_is old b settled) h.among));
        is = h.is;
      }))
      (bool_cases (old.newborn b))

  pub may_still : (b j : ℕ) (s : Slot) → MaySlot old b j s → MaySlot new b j s
  may_still b j s h = ⊎_elim
      (λ has. seen_still b j s has)
      (λ r. inr (⊎_elim
      (λ is. inl (is ∙ sym (slots b j)))
      (λ c. inr (c.0, clears b j c.0 c.1, c.2 ∙ ap cleared (sym (slots b j))))
      r))
      h

  pub stands_still : ((t : Top) → Contains old.tops t → Contains new.tops t) → (b : ℕ) (q : Place) → Stands old b q → Stands new b q
  stands_still tops = stands_by (λ t h. stands_top t (tops t h)) (λ a i s p b st may e. stands_below i s b st (may_still a i s may) e)
