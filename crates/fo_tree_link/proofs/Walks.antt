-- Paths from a block, where one slot is put.
use Rattle.std.proofs.Common.{◌≡◌, ◌≢◌, ◌⊎◌, ◌+◌, ◌*◌, ◌^◌, ◌<◌, ◌≤◌, ℕ, Bool, true, false, cond, nat_le, nat_eq, ◌%◌, zero, suc, List, [], ◌∷◌, inl, inr, ⊎_elim, refl, sym, ◌∙◌, ap, subst, arith}
use Rattle.std.proofs.lemmas.Bool.{cases_eq, leb-false}
use Rattle.std.proofs.Math.Nat.{pow-le-pow_right}
use Rattle.fo_image.specs.declared.types.Score.{Score}
use Rattle.fo_image.specs.declared.types.Kind.{Kind}
use Rattle.fo_image.specs.declared.types.Kind.TheVariants.{Data, Dir, Root}
use Rattle.fo_image.specs.declared.types.Pointer.{Pointer}
use Rattle.fo_image.specs.declared.types.Pointer.TheVariants.{Nil, Local, Score as Held}
use Rattle.fo_image.specs.Format.{IsDepth}
use Rattle.fo_crash.specs.declared.slot.Slot.{Slot}
use Rattle.fo_crash.specs.Images.{Image, Reaches, target, walk, local, to_block}
use Rattle.fo_crash.proofs.Reach.{lost, reaches_from, reaches_same}
use Rattle.fo_ports.specs.Blocks.{IsEntry, IsInner, SlotFits}
use Rattle.fo_ports.specs.Sources.{depth_for}
use Rattle.fo_tree_open.specs.Open.{HasEntry, NamesRank}

nil_local : (b : ℕ) → Nil ≡ Local b → ⊥
nil_local b e = cc

held_local : (score : Score) (b : ℕ) → Held score ≡ Local b → ⊥
held_local score b e = cc

pub local_eq : {a b : ℕ} → Local a ≡ Local b → a ≡ b
local_eq e = cc

-- What is reached from a slot is reached from the block to which it leads.
pub record From (now : Image) (s : Slot) (b : ℕ) : Type 0 where
  pub block : ℕ
  pub is : target s ≡ Local block
  pub reaches : Reaches now (to_block block) b

pub from_slot : (now : Image) (s : Slot) (b : ℕ) → Reaches now s b → From now s b
from_slot now s b r = by (target s) refl
  where
    by : (p : Pointer) → target s ≡ p → From now s b
    by Nil e = absurd (lost now r.path s (λ c h. nil_local c (sym e ∙ h)) b r.leads)
    by (Held score) e = absurd (lost now r.path s (λ c h. held_local score c (sym e ∙ h)) b r.leads)
    by (Local c) e = record { block = c; is = e; reaches = reaches_same {s = s} {t = to_block c} e r }

-- one slot down a path
pub step_down : (now : Image) (w j b : ℕ) (path : List ℕ) → target (walk now (to_block w) (j ∷ path)) ≡ Local b → From now ((now w).slot j) b
step_down now w j b path e = from_slot now ((now w).slot j) b (record { path = path; leads = e })

-- Two images differ in one slot alone: a path of the first is one of the second, or goes by that slot.
pub walks_until : (x y : Image) (at i : ℕ) → ((b j : ℕ) → (b ≢ at) ⊎ (j ≢ i) → (y b).slot j ≡ (x b).slot j) → (path : List ℕ) (s : Slot) (b : ℕ) → target (walk x s path) ≡ Local b → Reaches y s b ⊎ Reaches x ((x at).slot i) b
walks_until x y at i same [] s b e = inl (record { path = []; leads = e })
walks_until x y at i same (j ∷ path) s b e = by (target s) refl (λ w. walks_until x y at i same path ((x w).slot j) b)
  where
    after : (w : ℕ) → target s ≡ Local w → target (walk x ((x w).slot j) path) ≡ Local b
    after w is = sym (ap (λ (p : Pointer). target (walk x ((local x p).slot j) path)) is) ∙ e

    other : (w : ℕ) → target s ≡ Local w → (y w).slot j ≡ (x w).slot j → Reaches y ((x w).slot j) b ⊎ Reaches x ((x at).slot i) b → Reaches y s b ⊎ Reaches x ((x at).slot i) b
    other w is slot h = ⊎_elim
        (λ r. inl (reaches_same {s = to_block w} {t = s} (sym is) (reaches_from j (subst (λ q. Reaches y q b) (sym slot) r))))
        (λ r. inr r)
        h

    by : (p : Pointer) → target s ≡ p → ((w : ℕ) → target (walk x ((x w).slot j) path) ≡ Local b → Reaches y ((x w).slot j) b ⊎ Reaches x ((x at).slot i) b) → Reaches y s b ⊎ Reaches x ((x at).slot i) b
    by Nil is on = absurd (lost x (j ∷ path) s (λ c h. nil_local c (sym is ∙ h)) b e)
    by (Held score) is on = absurd (lost x (j ∷ path) s (λ c h. held_local score c (sym is ∙ h)) b e)
    by (Local w) is on = ⊎_elim
        (λ here. ⊎_elim
        (λ own. inr (record { path = path; leads = subst (λ n. target (walk x ((x at).slot n) path) ≡ Local b) own (subst (λ n. target (walk x ((x n).slot j) path) ≡ Local b) here (after w is)) }))
        (λ aside. other w is (same w j (inr aside)) (on w (after w is)))
        (cases_eq j i))
        (λ away. other w is (same w j (inl away)) (on w (after w is)))
        (cases_eq w at)

-- ---- entries

pub fits_entry : (kind : Kind) (i : ℕ) (s : Slot) → HasEntry kind i → IsEntry s → SlotFits kind i s
fits_entry (Data level) i s has is = absurd has
fits_entry (Dir zero) i s has is = is
fits_entry (Dir (suc level)) i s has is = absurd has
fits_entry Root zero s has is = is
fits_entry Root (suc zero) s has is = is
fits_entry Root (suc (suc i)) s has is = absurd (omega (arith, has))

pub not_inner : (kind : Kind) (i : ℕ) → HasEntry kind i → IsInner kind → ⊥
not_inner (Data level) i has inner = has
not_inner (Dir zero) i has inner = omega (arith, inner)
not_inner (Dir (suc level)) i has inner = has
not_inner Root i has inner = inner

below_high : (dir even : Bool) (high depth rank : ℕ) → rank + cond dir 32 (cond even 8 24) ≤ high → depth ≤ 4 → rank + depth < high
below_high true even high depth rank is few = omega (arith, is, few)
below_high false true high depth rank is few = omega (arith, is, few)
below_high false false high depth rank is few = omega (arith, is, few)

-- the top of a source stands lower than the block with its entry
pub rank_lower : (kind : Kind) (high i : ℕ) (dir : Bool) (rank depth : ℕ) → NamesRank kind high i dir rank → depth ≤ 4 → rank + depth < high
rank_lower (Data level) high i dir rank depth is few = absurd is
rank_lower (Dir zero) high i dir rank depth is few = below_high dir (nat_eq (i % 2) 0) high depth rank (omega (arith, is)) few
rank_lower (Dir (suc level)) high i dir rank depth is few = absurd is
rank_lower Root high i dir rank depth is few = below_high dir (nat_eq (i % 2) 0) high depth rank (omega (arith, is)) few

-- a depth that is the least has no room below it
pub least_is : (z d : ℕ) → d ≡ depth_for z → z ≤ 8192 * 409 ^ d → IsDepth z d
least_is z d is room = record { room = room; least = λ n lt. by n (nat_le z 8192) (nat_le z (8192 * 409)) (nat_le z (8192 * 409 ^ 2)) (nat_le z (8192 * 409 ^ 3)) refl refl refl refl (subst (λ m. n < m) is lt) }
  where
    some : (n : ℕ) → n ≡ 409 → 0 < n
    some n e = omega (arith, e)

    low : (n m : ℕ) → n ≤ m → 8192 * 409 ^ m < z → 8192 * 409 ^ n < z
    low n m le past = let more = pow-le-pow_right {n = 409} (some 409 refl) {i = n} {j = m} le in omega (arith, past, more)

    by : (n : ℕ) (a b c e : Bool) → nat_le z 8192 ≡ a → nat_le z (8192 * 409) ≡ b → nat_le z (8192 * 409 ^ 2) ≡ c → nat_le z (8192 * 409 ^ 3) ≡ e → n < cond a 0 (cond b 1 (cond c 2 (cond e 3 4))) → 8192 * 409 ^ n < z
    by n true b c e f g h k lt = absurd (omega (arith, lt))
    by n false true c e f g h k lt = low n 0 (omega (arith, lt)) (let past = leb-false z 8192 f in omega (arith, past))
    by n false false true e f g h k lt = low n 1 (omega (arith, lt)) (let past = leb-false z (8192 * 409) g in omega (arith, past))
    by n false false false true f g h k lt = low n 2 (omega (arith, lt)) (leb-false z (8192 * 409 ^ 2) h)
    by n false false false false f g h k lt = low n 3 (omega (arith, lt)) (leb-false z (8192 * 409 ^ 3) k)
