-- What a super block says of file numbers.
use Rattle.std.proofs.Common.{◌≡◌, ℕ, ◌≤◌, List, Option, Some, sym, subst, arith}
use Rattle.std.proofs.lemmas.Nat.{from_be_bytes-to_be_bytes_4}
use Rattle.fo_image.specs.declared.types.Super.{Super}
use Rattle.fo_image.specs.Field.{Four, number_at}
use Rattle.fo_image.specs.Format.{SpellsSuper}
use Rattle.fo_mind.specs.Parts.{least_limit}

-- its limit stands in its bytes
pub super_limit : (one : Super) (bytes : List ℕ) → SpellsSuper one bytes → number_at Four 22 bytes ≡ one.numbers
unfolding number_at
super_limit one bytes s = subst (λ (x : List ℕ). number_at Four 22 x ≡ one.numbers) (sym s.bytes_are) (from_be_bytes-to_be_bytes_4 one.numbers s.fit.1.1.1.1.1.0)

-- no limit is above that of the one in doubt
pub tried_limit : (was one : Super) (doubt : Option (List ℕ)) (bytes : List ℕ) → doubt ≡ Some bytes → SpellsSuper one bytes → least_limit was doubt ≤ one.numbers
tried_limit was one doubt bytes is s =
    let n = super_limit one bytes s in
    subst (λ (o : Option (List ℕ)). least_limit was o ≤ one.numbers) (sym is) (omega (arith, n))
