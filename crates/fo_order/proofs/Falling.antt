-- Marks by falling ranks.
use Rattle.std.proofs.Common.{◌≡◌, ◌-◌, ◌<◌, ◌≤◌, ℕ, zero, suc, List, [], ◌∷◌, length, slice_index_or, Contains, refl, subst, ◌∙◌, arith}
use Rattle.fo_order.specs.declared.marks.Flags.{Flags}
use Rattle.fo_order.specs.declared.marks.Mark.{Mark}
use Rattle.fo_order.specs.Marks.{IsFalling, Marked, mark, IsTop}

-- the place is between two others
pub record IsWithin (rank : ℕ) (marks : List Mark) (low high : ℕ) : Type 0 where
  pub ends : low ≤ high
  pub within : high ≤ length marks
  pub before : (i : ℕ) → i < low → rank < (slice_index_or marks i (mark 0 0)).rank
  pub behind : (i : ℕ) → high ≤ i → i < length marks → (slice_index_or marks i (mark 0 0)).rank ≤ rank

-- the marks fall, and each dirty block has one
pub record StaleGone (flags : List Flags) (marks : List Mark) : Type 0 where
  pub falls : IsFalling marks
  pub marked : Marked flags marks

pub any_default : {X : Type 0} (xs : List X) (k : ℕ) (d e : X) → k < length xs → slice_index_or xs k d ≡ slice_index_or xs k e
any_default [] k d e h = absurd (omega arith)
any_default (x ∷ xs) zero d e h = refl
any_default (x ∷ xs) (suc k) d e h = any_default xs k d e (omega arith)

-- the rank at a place
abbrev rank_at : List Mark → ℕ → ℕ
rank_at marks k = (slice_index_or marks k (mark 0 0)).rank

-- a mark that is among them has a place
placed : (marks : List Mark) (m : Mark) → Contains marks m → (k : ℕ) × (k < length marks) × (slice_index_or marks k (mark 0 0) ≡ m)
placed marks m c = (c.0, c.1, any_default marks c.0 (mark 0 0) m c.1 ∙ c.2)

-- no mark is of a lower rank than the one at the end
pub top_is_least : (marks : List Mark) (m n : Mark) → IsFalling marks → IsTop marks m → Contains marks n → m.rank ≤ n.rank
top_is_least marks m n falls top among =
    let p = placed marks n among in
    let le = falls.each p.0 (length marks - 1) (omega (arith, p.1)) (omega (arith, top.some)) in
    subst (λ (x : Mark). x.rank ≤ n.rank) top.is (subst (λ (x : Mark). rank_at marks (length marks - 1) ≤ x.rank) p.2 le)
