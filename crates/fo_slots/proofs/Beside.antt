-- Bytes that stay beside a part.
use Rattle.std.proofs.Common.{◌≡◌, ◌≢◌, ◌⊎◌, inl, inr, ⊎_elim, ℕ, zero, suc, ◌+◌, ◌-◌, ◌<◌, ◌≤◌, List, take, drop, refl, sym, ◌∙◌, ap, arith}
use Rattle.std.proofs.lemmas.Bool.{cases_lt}
use Rattle.std.proofs.lemmas.List.{take-take, drop-drop, drop-take}
use Rattle.fo_image.specs.declared.types.Kind.{Kind}
use Rattle.fo_image.specs.declared.types.Kind.TheVariants.{Data, Dir, Root}
use Rattle.fo_ports.specs.Blocks.{slot_count, slot_start, slots_from, slots_to}
use Rattle.fo_slots.specs.Read.{width, KeepsBeside}

-- A slot stands among the bytes of slots, and these in the block.
pub record Within (kind : Kind) (i : ℕ) : Type 0 where
  pub after : slots_from kind ≤ slot_start kind i
  pub up_to : slot_start kind i + width kind i ≤ slots_to kind
  pub in_block : slots_to kind ≤ 8192

pub within : (kind : Kind) (i : ℕ) → i < slot_count kind → Within kind i
within (Data zero) i lt = absurd (omega arith)
within (Data (suc level)) i lt = record { after = omega arith; up_to = omega arith; in_block = omega arith }
within (Dir zero) i lt = record { after = omega arith; up_to = omega arith; in_block = omega arith }
within (Dir (suc level)) i lt = record { after = omega arith; up_to = omega arith; in_block = omega arith }
within Root zero lt = record { after = omega arith; up_to = omega arith; in_block = omega arith }
within Root (suc zero) lt = record { after = omega arith; up_to = omega arith; in_block = omega arith }
within Root (suc (suc i)) lt = record { after = omega arith; up_to = omega arith; in_block = omega arith }

-- Two slots of a block have no byte in common.
pub apart : (kind : Kind) (j i : ℕ) → j < slot_count kind → i < slot_count kind → j ≢ i → (slot_start kind j + width kind j ≤ slot_start kind i) ⊎ (slot_start kind i + width kind i ≤ slot_start kind j)
apart (Data zero) j i lj li ne = absurd (omega arith)
apart (Data (suc level)) j i lj li ne = ⊎_elim (λ lt. inl (omega (arith, lt))) (λ ge. inr (omega (arith, ge, ne))) (cases_lt j i)
apart (Dir zero) j i lj li ne = ⊎_elim (λ lt. inl (omega (arith, lt))) (λ ge. inr (omega (arith, ge, ne))) (cases_lt j i)
apart (Dir (suc level)) j i lj li ne = ⊎_elim (λ lt. inl (omega (arith, lt))) (λ ge. inr (omega (arith, ge, ne))) (cases_lt j i)
apart Root zero zero lj li ne = absurd (ne refl)
apart Root zero (suc zero) lj li ne = inl (omega arith)
apart Root zero (suc (suc i)) lj li ne = inr (omega arith)
apart Root (suc zero) zero lj li ne = inr (omega arith)
apart Root (suc zero) (suc zero) lj li ne = absurd (ne refl)
apart Root (suc zero) (suc (suc i)) lj li ne = inr (omega arith)
apart Root (suc (suc j)) zero lj li ne = inl (omega arith)
apart Root (suc (suc j)) (suc zero) lj li ne = inl (omega arith)
apart Root (suc (suc j)) (suc (suc i)) lj li ne = absurd (omega arith)

-- bytes that stay beside a part, stay in any part apart from it
pub kept : {from to : ℕ} {old new : List ℕ} (at len : ℕ) → KeepsBeside from to old new → (at + len ≤ from) ⊎ (to ≤ at) → take len (drop at new) ≡ take len (drop at old)
kept {from} {to} {old} {new} at len keeps which = ⊎_elim
    (λ le.
    let same : take (at + len) new ≡ take (at + len) old = sym (take-take (at + len) from new le) ∙ ap (λ (xs : List ℕ). take (at + len) xs) keeps.before ∙ take-take (at + len) from old le in
    sym (drop-take at len new) ∙ ap (λ (xs : List ℕ). drop at xs) same ∙ drop-take at len old)
    (λ le.
    let far : to + (at - to) ≡ at = omega (arith, le) in
    ap (λ (xs : List ℕ). take len xs) (later far new ∙ ap (λ (xs : List ℕ). drop (at - to) xs) keeps.behind ∙ sym (later far old)))
    which
  where
    later : to + (at - to) ≡ at → (xs : List ℕ) → drop at xs ≡ drop (at - to) (drop to xs)
    later far xs = ap (λ n. drop n xs) (sym far) ∙ sym (drop-drop (at - to) to xs)

-- bytes that stay beside a part, stay beside a wider one
pub wider : {from to : ℕ} {old new : List ℕ} (f t : ℕ) → f ≤ from → to ≤ t → KeepsBeside from to old new → KeepsBeside f t old new
wider {from} {to} {old} {new} f t lf lt keeps = record {
  before = sym (take-take f from new lf) ∙ ap (λ (xs : List ℕ). take f xs) keeps.before ∙ take-take f from old lf;
  behind = later new ∙ ap (λ (xs : List ℕ). drop (t - to) xs) keeps.behind ∙ sym (later old);
}
  where
    far : to + (t - to) ≡ t
    far = omega (arith, lt)

    later : (xs : List ℕ) → drop t xs ≡ drop (t - to) (drop to xs)
    later xs = ap (λ n. drop n xs) (sym far) ∙ sym (drop-drop (t - to) to xs)
