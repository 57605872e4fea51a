-- The sessions of all clients.
use Rattle.std.specs.Prelude.{◌≡◌, ℕ, List, [], replicate, slice_index_or, slice_set}
use Rattle.nine_fids.specs.Fids.{Fids, no_fids}
use Rattle.nine_session.specs.Session.{Kept}

-- each session by its number, and the numbers of the files that any of them has open for exclusive use
pub record All : Type 0 where
  pub sessions : List Fids
  pub exclusive : List ℕ

-- sixteen sessions before any message
abbrev pub no_sessions : All
no_sessions = record { sessions = replicate 16 no_fids; exclusive = [] }

-- the session of this number
abbrev pub session_at : ℕ → All → Fids
session_at n all = slice_index_or all.sessions n no_fids

-- and with it what all of them share
abbrev pub kept_at : ℕ → All → Kept
kept_at n all = record { session = session_at n all; exclusive = all.exclusive }

-- No other session is changed.
abbrev pub OthersStay : ℕ → All → All → Type 0
OthersStay n old new = new.sessions ≡ slice_set old.sessions n (session_at n new)
