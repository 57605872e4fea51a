-- How many levels a source has that ends within one of its first leaves.
use Rattle.std.proofs.Common.{◌≡◌, ◌*◌, ◌+◌, ◌^◌, ◌<◌, ◌≤◌, ℕ, Bool, true, false, cond, nat_le, refl, sym, subst, arith}
use Rattle.std.proofs.lemmas.Bool.{leb-false}
use Rattle.fo_ports.specs.Sources.{depth_for}

-- two levels are enough for 409^2 leaves
pub two_levels : (depth size leaf : ℕ) → depth ≡ depth_for size → size < 8192 * (leaf + 1) → leaf < 409 ^ 2 → 2 * depth ≤ 4
two_levels depth size leaf is before small = subst (λ d. 2 * d ≤ 4) (sym is) (by (nat_le size 8192) (nat_le size (8192 * 409)) (nat_le size (8192 * 409 ^ 2)) refl refl refl)
  where
    by : (a b c : Bool) → nat_le size 8192 ≡ a → nat_le size (8192 * 409) ≡ b → nat_le size (8192 * 409 ^ 2) ≡ c → 2 * cond a 0 (cond b 1 (cond c 2 (cond (nat_le size (8192 * 409 ^ 3)) 3 4))) ≤ 4
    by true b c e f g = omega arith
    by false true c e f g = omega arith
    by false false true e f g = omega arith
    by false false false e f g = let past = leb-false size (8192 * 409 ^ 2) g in absurd (omega (arith, past, before, small))
