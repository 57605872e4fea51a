-- The least depth of a tree.
use Rattle.std.proofs.Common.{◌≡◌, ◌≢◌, ◌⊎◌, ◌*◌, ◌^◌, ◌<◌, ◌≤◌, ℕ, Bool, true, false, cond, nat_le, inl, inr, ⊎_elim, refl, sym, subst, arith}
use Rattle.std.proofs.lemmas.Bool.{cases_lt, leb-true, leb-false}
use Rattle.fo_image.specs.Format.{IsDepth}
use Rattle.fo_ports.specs.Sources.{depth_for}

-- the least levels have room
pub room_for : (z : ℕ) → z ≤ 2 ^ 47 → z ≤ 8192 * 409 ^ depth_for z
room_for z low = by (nat_le z 8192) (nat_le z (8192 * 409)) (nat_le z (8192 * 409 ^ 2)) (nat_le z (8192 * 409 ^ 3)) refl refl refl refl
  where
    by : (a b c d : Bool) → nat_le z 8192 ≡ a → nat_le z (8192 * 409) ≡ b → nat_le z (8192 * 409 ^ 2) ≡ c → nat_le z (8192 * 409 ^ 3) ≡ d → z ≤ 8192 * 409 ^ (cond a 0 (cond b 1 (cond c 2 (cond d 3 4))))
    by true b c d e f g h = let le = leb-true z 8192 e in omega (arith, le)
    by false true c d e f g h = let le = leb-true z (8192 * 409) f in omega (arith, le)
    by false false true d e f g h = let le = leb-true z (8192 * 409 ^ 2) g in omega (arith, le)
    by false false false true e f g h = let le = leb-true z (8192 * 409 ^ 3) h in omega (arith, le)
    by false false false false e f g h = omega (arith, low)

-- the least depth, as the format says it
pub least_for : (z : ℕ) → z ≤ 2 ^ 47 → IsDepth z (depth_for z)
least_for z low = record { room = room_for z low; least = by (nat_le z 8192) (nat_le z (8192 * 409)) (nat_le z (8192 * 409 ^ 2)) (nat_le z (8192 * 409 ^ 3)) refl refl refl refl }
  where
    few : (n : ℕ) → n < 4 → (8192 * 409 ^ n ≤ 8192) ⊎ (n ≢ 0)
    few n lt = ⊎_elim (λ some. inr (omega (arith, some))) (λ none. let zero_is : n ≡ 0 = omega (arith, none) in inl (subst (λ d. 8192 * 409 ^ d ≤ 8192) (sym zero_is) (omega arith))) (cases_lt 0 n)

    at : (n a : ℕ) → n ≡ a → 8192 * 409 ^ a < z → 8192 * 409 ^ n < z
    at n a e lt = subst (λ d. 8192 * 409 ^ d < z) (sym e) lt

    zero_lt : nat_le z 8192 ≡ false → 8192 * 409 ^ 0 < z
    zero_lt e = let lt = leb-false z 8192 e in omega (arith, lt)

    by : (a b c d : Bool) → nat_le z 8192 ≡ a → nat_le z (8192 * 409) ≡ b → nat_le z (8192 * 409 ^ 2) ≡ c → nat_le z (8192 * 409 ^ 3) ≡ d → (n : ℕ) → n < cond a 0 (cond b 1 (cond c 2 (cond d 3 4))) → 8192 * 409 ^ n < z
    by true b c d e f g h n lt = absurd (omega (arith, lt))
    by false true c d e f g h n lt = at n 0 (omega (arith, lt)) (zero_lt e)
    by false false true d e f g h n lt = ⊎_elim
        (λ small. at n 0 (omega (arith, small)) (zero_lt e))
        (λ big. at n 1 (omega (arith, big, lt)) (let past = leb-false z (8192 * 409) f in omega (arith, past)))
        (cases_lt n 1)
    by false false false true e f g h n lt = ⊎_elim
        (λ small. at n 0 (omega (arith, small)) (zero_lt e))
        (λ big. ⊎_elim
        (λ one. at n 1 (omega (arith, big, one)) (let past = leb-false z (8192 * 409) f in omega (arith, past)))
        (λ two. at n 2 (omega (arith, two, lt)) (let past = leb-false z (8192 * 409 ^ 2) g in omega (arith, past)))
        (cases_lt n 2))
        (cases_lt n 1)
    by false false false false e f g h n lt = ⊎_elim
        (λ small. at n 0 (omega (arith, small)) (zero_lt e))
        (λ big. ⊎_elim
        (λ one. at n 1 (omega (arith, big, one)) (let past = leb-false z (8192 * 409) f in omega (arith, past)))
        (λ two. ⊎_elim
        (λ small. at n 2 (omega (arith, two, small)) (let past = leb-false z (8192 * 409 ^ 2) g in omega (arith, past)))
        (λ three. at n 3 (omega (arith, three, lt)) (let past = leb-false z (8192 * 409 ^ 3) h in omega (arith, past)))
        (cases_lt n 3))
        (cases_lt n 2))
        (cases_lt n 1)

-- up to four levels
pub few_for : (z : ℕ) → depth_for z ≤ 4
few_for z = by (nat_le z 8192) (nat_le z (8192 * 409)) (nat_le z (8192 * 409 ^ 2)) (nat_le z (8192 * 409 ^ 3))
  where
    by : (a b c d : Bool) → cond a 0 (cond b 1 (cond c 2 (cond d 3 4))) ≤ 4
    by true b c d = omega arith
    by false true c d = omega arith
    by false false true d = omega arith
    by false false false true = omega arith
    by false false false false = omega arith
