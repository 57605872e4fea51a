-- The least depth, as the format says it.
use Rattle.std.proofs.Common.{◌≡◌, ◌*◌, ◌^◌, ◌<◌, ◌≤◌, ℕ, Bool, true, false, cond, nat_le, ⊎_elim, refl, arith}
use Rattle.std.proofs.lemmas.Bool.{cases_lt, leb-true, leb-false}
use Rattle.std.proofs.Math.Nat.{pow-le-pow_right}
use Rattle.fo_image.specs.Format.{IsDepth}
use Rattle.fo_tree_look.specs.of_ports.Sources.{depth_for}

-- the least depth is the one that has room and below which none has
pub depth_is : (z d : ℕ) → IsDepth z d → d ≤ 4 → d ≡ depth_for z
depth_is z d is few = by (nat_le z 8192) (nat_le z (8192 * 409)) (nat_le z (8192 * 409 ^ 2)) (nat_le z (8192 * 409 ^ 3)) refl refl refl refl
  where
    -- a depth with room is no less
    up : (a : ℕ) → z ≤ 8192 * 409 ^ a → d ≤ a
    up a room = ⊎_elim (λ lt. let past = is.least a lt in absurd (omega (arith, past, room))) (λ le. omega (arith, le)) (cases_lt a d)

    few_of : (n : ℕ) → n ≡ 409 → 0 < n
    few_of n e = omega (arith, e)

    -- and one without is less
    down : (a : ℕ) → 8192 * 409 ^ a < z → a < d
    down a past = ⊎_elim (λ lt. lt) (λ le. absurd (let more = pow-le-pow_right {n = 409} (few_of 409 refl) {i = d} {j = a} le in let room = is.room in omega (arith, past, more, room))) (cases_lt a d)

    by : (a b c e : Bool) → nat_le z 8192 ≡ a → nat_le z (8192 * 409) ≡ b → nat_le z (8192 * 409 ^ 2) ≡ c → nat_le z (8192 * 409 ^ 3) ≡ e → d ≡ cond a 0 (cond b 1 (cond c 2 (cond e 3 4)))
    by true b c e f g h n = let le = up 0 (let room = leb-true z 8192 f in omega (arith, room)) in omega (arith, le)
    by false true c e f g h n = let le = up 1 (let room = leb-true z (8192 * 409) g in omega (arith, room)) in let lt = down 0 (let past = leb-false z 8192 f in omega (arith, past)) in omega (arith, le, lt)
    by false false true e f g h n = let le = up 2 (leb-true z (8192 * 409 ^ 2) h) in let lt = down 1 (let past = leb-false z (8192 * 409) g in omega (arith, past)) in omega (arith, le, lt)
    by false false false true f g h n = let le = up 3 (leb-true z (8192 * 409 ^ 3) n) in let lt = down 2 (let past = leb-false z (8192 * 409 ^ 2) h in omega (arith, past)) in omega (arith, le, lt)
    by false false false false f g h n = let lt = down 3 (let past = leb-false z (8192 * 409 ^ 3) n in omega (arith, past)) in omega (arith, few, lt)
