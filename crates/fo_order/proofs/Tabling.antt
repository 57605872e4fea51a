-- What holds of flags as they lie in memory.
use Rattle.std.proofs.Common.{◌≡◌, ◌<◌, ℕ, zero, suc, List, [], ◌∷◌, length, set, slice_index_or, replicate, vec_len, refl, sym, ap, ◌∙◌, arith}
use Rattle.fo_order.specs.declared.table.Standing.{Standing}
use Rattle.fo_order.specs.declared.table.Standing.TheVariants.{Settled}
use Rattle.fo_order.specs.Flags.{flag, quiet}
use Rattle.fo_order.specs.declared.table.FlagTable.TheInside.{Inside}
use Rattle.fo_order.specs.Table.{IsEven, table, unpacked, view_of}

pub table_length : (ss : List Standing) (rs : List ℕ) → length ss ≡ length rs → length (table ss rs) ≡ length rs
table_length [] [] e = refl
table_length [] (r ∷ rs) e = absurd (omega (arith, e))
table_length (s ∷ ss) [] e = absurd (omega (arith, e))
table_length (s ∷ ss) (r ∷ rs) e = ap suc (table_length ss rs (omega (arith, e)))

pub table_new : (n : ℕ) → table (replicate n Settled) (replicate n 0) ≡ replicate n quiet
table_new zero = refl
table_new (suc n) = ap (λ l. quiet ∷ l) (table_new n)

pub table_get : (ss : List Standing) (rs : List ℕ) (at : ℕ) (s : Standing) (r : ℕ) → length ss ≡ length rs → at < length rs → flag (table ss rs) at ≡ unpacked (slice_index_or ss at s) (slice_index_or rs at r)
table_get [] [] at s r e lt = absurd (omega (arith, lt))
table_get [] (x ∷ rs) at s r e lt = absurd (omega (arith, e))
table_get (x ∷ ss) [] at s r e lt = absurd (omega (arith, e))
table_get (x ∷ ss) (y ∷ rs) zero s r e lt = refl
table_get (x ∷ ss) (y ∷ rs) (suc at) s r e lt = table_get ss rs at s r (omega (arith, e)) (omega (arith, lt))

pub table_set : (ss : List Standing) (rs : List ℕ) (at : ℕ) (s : Standing) (r : ℕ) → table (set ss at s) (set rs at r) ≡ set (table ss rs) at (unpacked s r)
table_set [] rs at s r = refl
table_set (x ∷ ss) [] zero s r = refl
table_set (x ∷ ss) [] (suc at) s r = refl
table_set (x ∷ ss) (y ∷ rs) zero s r = refl
table_set (x ∷ ss) (y ∷ rs) (suc at) s r = ap (λ l. unpacked x y ∷ l) (table_set ss rs at s r)

-- how many there are
pub table_count : (a : Inside) → IsEven a → length (view_of a) ≡ vec_len a.ranks
table_count a is = table_length a.standings.items a.ranks.items is.even ∙ sym a.ranks.ok.0

-- an address within is within both lists
pub within : (a : Inside) → IsEven a → (at : ℕ) → at < length (view_of a) → (at < vec_len a.standings) × (at < vec_len a.ranks)
within a is at lt =
    let e = table_length a.standings.items a.ranks.items is.even in
    (omega (arith, e, lt, is.even, a.standings.ok.0), omega (arith, e, lt, a.ranks.ok.0))
