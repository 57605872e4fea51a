-- What was given out stood nowhere before, however many calls came first: its label says so.
use Rattle.std.proofs.Common.{◌≡◌, ◌≢◌, ℕ, true, false, sym, ◌∙◌, subst}
use Rattle.fo_ports.specs.of_image.declared.types.Label.{Label}
use Rattle.fo_ports.specs.of_image.Usable.{is_usable}
use Rattle.fo_ports.specs.of_crash.declared.place.Place.{Place}
use Rattle.fo_ports.specs.State.{State, KeepsAll}

-- what stands is not usable by its label
abbrev pub Standing : State → Type 0
Standing s = (at : ℕ) (p : Place) → s.tells → at ≢ 1 → s.stands at p → is_usable s.low (s.label at) ≡ false

-- a block that is usable and has kept its label was so before
pub free_before : {a b : State} → KeepsAll a b → (at : ℕ) → b.label at ≡ a.label at → is_usable b.low (b.label at) ≡ true → is_usable a.low (a.label at) ≡ true
free_before {a = a} {b = b} all at same is = subst (λ n. is_usable n (a.label at) ≡ true) all.same_low (subst (λ (l : Label). is_usable b.low l ≡ true) same is)

pub free_stands : (s : State) → Standing s → s.tells → (at : ℕ) (p : Place) → at ≢ 1 → is_usable s.low (s.label at) ≡ true → s.stands at p → ⊥
free_stands s standing told at p ne is stands = let e : true ≡ false = sym is ∙ standing at p told ne stands in cc
