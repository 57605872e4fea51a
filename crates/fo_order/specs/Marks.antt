-- Lists of marks.
use Rattle.std.specs.Prelude.{◌≡◌, ◌<◌, ◌≤◌, ◌-◌, ℕ, true, List, length, map, slice_index_or}
use Rattle.std.specs.List.{Contains}
use Rattle.fo_order.specs.declared.marks.Flags.{Flags}
use Rattle.fo_order.specs.declared.marks.Mark.{Mark}
use Rattle.fo_order.specs.declared.marks.Tried.TheVariants.{Written}
use Rattle.fo_order.specs.Flags.{flag, is_current}

abbrev pub mark : ℕ → ℕ → Mark
mark at rank = record { at = at; rank = rank }

abbrev pub mark_at : Mark → ℕ
mark_at m = m.at

abbrev pub mark_rank : Mark → ℕ
mark_rank m = m.rank

-- No rank is higher than one before it.
pub record IsFalling (marks : List Mark) : Type 0 where
  pub each : (i j : ℕ) → i ≤ j → j < length marks → (slice_index_or marks j (mark 0 0)).rank ≤ (slice_index_or marks i (mark 0 0)).rank

-- Each dirty block has its mark.
pub record Marked (flags : List Flags) (marks : List Mark) : Type 0 where
  pub each : (q : ℕ) → (flag flags q).dirty ≡ true → Contains marks (mark q (flag flags q).rank)

-- before the place are higher ranks, and from there on none
pub record IsPlace (rank : ℕ) (marks : List Mark) (place : ℕ) : Type 0 where
  pub within : place ≤ length marks
  pub before : (i : ℕ) → i < place → rank < (slice_index_or marks i (mark 0 0)).rank
  pub behind : (i : ℕ) → place ≤ i → i < length marks → (slice_index_or marks i (mark 0 0)).rank ≤ rank

-- What counts as written is among these.
pub record Known (flags : List Flags) (written : List Mark) : Type 0 where
  pub each : (q : ℕ) → (flag flags q).tried ≡ Written → Contains (map mark_at written) q

-- the mark at the end
pub record IsTop (marks : List Mark) (m : Mark) : Type 0 where
  pub some : 0 < length marks
  pub is : slice_index_or marks (length marks - 1) (mark 0 0) ≡ m

-- the mark at the end is as the flags say
pub record TopIsCurrent (flags : List Flags) (marks : List Mark) : Type 0 where
  pub is : (m : Mark) → IsTop marks m → is_current flags m ≡ true
