-- The dated names of a list of epochs and times.
use Rattle.std.specs.Prelude.{ℕ, List, map}
use Rattle.fo_world.specs.Date.{date_of, monthday_of}
use Rattle.fo_world.specs.Dated.{Taken, dated_name}
use Rattle.fo_names.specs.declared.names.DatedName.{DatedName}

-- an epoch, and when it was taken
abbrev pub taken : ℕ × ℕ → Taken
taken p = record { epoch = p.0; time = p.1 }

-- the year, the month and day, and the name of one among all
abbrev pub named : List Taken → Taken → DatedName
named all t = record { year = (date_of t.time).year; monthday = monthday_of (date_of t.time); name = dated_name all t }

-- the epoch with that of each
abbrev pub dated : List (ℕ × ℕ) → List (ℕ × DatedName)
dated list = map (λ p. (p.0, named (map taken list) (taken p))) list
