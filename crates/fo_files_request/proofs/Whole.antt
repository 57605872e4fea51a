-- A whole write.
use Rattle.std.proofs.Common.{◌≡◌, ◌-◌, ◌<◌, ℕ, Bool, true, false, List, length, nat_eq, if◌then◌else◌, refl, arith}
use Rattle.std.proofs.lemmas.Bool.{eqb-true, eqb-false}
use Rattle.fo_world.specs.declared.place.Place.{Place}
use Rattle.fo_world.specs.Step.{need, write_need}

-- what a write needs, where it writes something and where it writes nothing
pub need_is : (at : Place) (bytes : List ℕ) → 0 < length bytes → write_need at bytes ≡ need (length at.trail - 1) (length bytes)
need_is at bytes some = by (nat_eq (length bytes) 0) refl
  where
    by : (b : Bool) → nat_eq (length bytes) 0 ≡ b → (if b then 0 else need (length at.trail - 1) (length bytes)) ≡ need (length at.trail - 1) (length bytes)
    by true e = let none = eqb-true (length bytes) 0 e in absurd (omega (arith, none, some))
    by false e = refl

pub none_is : (at : Place) (bytes : List ℕ) → length bytes ≡ 0 → write_need at bytes ≡ 0
none_is at bytes none = by (nat_eq (length bytes) 0) refl
  where
    by : (b : Bool) → nat_eq (length bytes) 0 ≡ b → (if b then 0 else need (length at.trail - 1) (length bytes)) ≡ 0
    by true e = refl
    by false e = absurd (eqb-false (length bytes) 0 e none)
