-- The order of writing.
use Rattle.std.specs.Prelude.{◌≡◌, ◌≢◌, ◌-◌, ◌<◌, ◌≤◌, ◌&&◌, ℕ, Bool, true, false, if◌then◌else◌, nat_eq, [], ◌∷◌, ◌++◌, length, map, slice_set, count_by}
use Rattle.std.specs.List.{Contains}
use Rattle.fo_order.specs.declared.marks.Flags.{Flags}
use Rattle.fo_order.specs.declared.marks.Tried.{Tried}
use Rattle.fo_order.specs.declared.marks.Tried.TheVariants.{Settled, Written, Failed}
use Rattle.fo_order.specs.declared.order.Turn.{Turn}
use Rattle.fo_order.specs.declared.order.Turn.TheVariants.{Write, Sync, Idle}
use Rattle.fo_order.specs.Flags.{flags_of, flag, is_dirty, settled_tried}
use Rattle.fo_order.specs.Marks.{mark, mark_rank}
use Rattle.fo_order.specs.Keeps.{Turns}

abbrev pub flag_at : Turns → ℕ → Flags
flag_at t at = flag t.flags at

-- of this block this is known from now on
abbrev pub noted : Turns → ℕ → Flags → Turns
noted t at f = record t { flags = slice_set t.flags at f }

-- the block is dirty with this rank already
abbrev pub is_ranked : ℕ → Flags → Bool
is_ranked rank f = f.dirty && nat_eq f.rank rank

-- a block is changed; one unit of room is used where it wasn't dirty with this rank
abbrev pub changed : Turns → ℕ → ℕ → Turns
changed t at rank =
    if is_ranked rank (flag_at t at) then t else record (noted t at (flags_of true (flag_at t at).tried rank)) { room = t.room - 1 }

-- a write of a block was answered
abbrev pub wrote : Turns → ℕ → Bool → Turns
wrote t at ok =
    if ok then record (noted t at (flags_of false Written (flag_at t at).rank)) { written = t.written ++ mark at (flag_at t at).rank ∷ [] }
    else noted t at (flags_of true Failed (flag_at t at).rank)

-- the highest rank, which nothing is named by
abbrev pub highest : ℕ
highest = 4294967295

-- A block is closed: it isn't written any more, unless its last write failed.
abbrev pub closed : Tried → Flags → Flags
closed Settled f = flags_of false Settled highest
closed Written f = flags_of false Written highest
closed Failed f = f

abbrev pub forgotten : Turns → ℕ → Turns
forgotten t at = noted t at (closed (flag_at t at).tried (flag_at t at))

-- A sync answered Ok: what was written is settled, and as many are dirty as before.
pub record IsSynced (old new : Turns) : Type 0 where
  pub each : (q : ℕ) → flag_at new q ≡ record (flag_at old q) { tried = settled_tried (flag_at old q).tried }
  pub count : length new.flags ≡ length old.flags
  pub dirty : count_by is_dirty new.flags ≡ count_by is_dirty old.flags
  pub none : new.written ≡ []
  pub room : new.room ≡ old.room

-- The block is dirty, of least rank, and no block of a lower rank is unsettled.
pub record IsNext (t : Turns) (at : ℕ) : Type 0 where
  pub dirty : (flag_at t at).dirty ≡ true
  pub least : (q : ℕ) → (flag_at t q).dirty ≡ true → (flag_at t at).rank ≤ (flag_at t q).rank
  pub settled : (q : ℕ) → (flag_at t q).tried ≢ Settled → (flag_at t at).rank ≤ (flag_at t q).rank
  pub written : (r : ℕ) → Contains (map mark_rank t.written) r → (flag_at t at).rank ≤ r

-- Something was written since the last sync, of a lower rank than whatever is dirty.
pub record IsDue (t : Turns) : Type 0 where
  pub some : 0 < length t.written
  pub lower : (q : ℕ) → (flag_at t q).dirty ≡ true → (r : ℕ) × Contains (map mark_rank t.written) r × (r < (flag_at t q).rank)

-- Nothing is dirty, and all is settled.
pub record IsQuiet (t : Turns) : Type 0 where
  pub clean : (q : ℕ) → (flag_at t q).dirty ≡ false
  pub settled : (q : ℕ) → (flag_at t q).tried ≡ Settled
  pub none : t.written ≡ []

abbrev pub IsTurn : Turns → Turn → Type 0
IsTurn t (Write at) = IsNext t at
IsTurn t Sync = IsDue t
IsTurn t Idle = IsQuiet t
