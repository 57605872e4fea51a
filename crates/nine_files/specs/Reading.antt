-- The files of a directory that a read gives (read(5) of the Plan 9 manual).
use Rattle.std.specs.Prelude.{ℕ, zero, suc, ◌-◌, List, [], ◌∷◌, length, Bool, false, ◌==◌, nat_lt, Option, Some, None, Result, Ok, if◌then◌else◌}
use Rattle.std.specs.List.{flat_map}
use Rattle.fo_world.specs.declared.place.Info.{Info}
use Rattle.fo_world.specs.declared.place.Place.{Place}
use Rattle.fo_world.specs.World.{World}
use Rattle.nine_fids.specs.declared.fid.Fid.{Fid}
use Rattle.nine_fids.specs.declared.fid.Opened.{Opened}
use Rattle.nine_fids.specs.declared.refusal.Refusal.{Refusal}
use Rattle.fo_world.specs.Chain.{and_then}
use Rattle.nine_fids.specs.Told.{Files, next_at, record_of}

-- ---- directories

-- As many files of a directory as have their records within the bytes left, in the order of their names, from the first above a
-- name on. Each record has bytes, so one step more than bytes is enough.
abbrev pub fitting : (Option (List ℕ) → ℕ → Result (List Info) Refusal) → ℕ → Option Info → Result (List Info) Refusal
fitting go left None = Ok []
fitting go left (Some i) = if nat_lt left (length (record_of i)) then Ok [] else and_then (go (Some i.name) (left - length (record_of i))) (λ rest. Ok (i ∷ rest))

-- the files whose records fit, from a name on
unfoldable pub files_above : ℕ → Files → World → Place → Option (List ℕ) → ℕ → Result (List Info) Refusal
files_above zero e w at after left = Ok []
files_above (suc steps) e w at after left = and_then (next_at e w at after) (fitting (files_above steps e w at) left)

-- the first record takes more than the count
abbrev pub exceeds : ℕ → Option Info → Bool
exceeds count None = false
exceeds count (Some i) = nat_lt count (length (record_of i))

-- the name of the last file, or the one before
abbrev pub last_name : Option (List ℕ) → List Info → Option (List ℕ)
last_name after [] = after
last_name after (i ∷ is) = last_name (Some i.name) is

-- the records of files, one after another
abbrev pub records_of : List Info → List ℕ
records_of is = flat_map record_of is

-- the fid with the place in the directory where its next read goes on; offsets count modulo 2^64
abbrev pub read_to : Fid → Opened → ℕ → Option (List ℕ) → Fid
read_to f o offset last = record f { opened = Some (record o { offset = offset; last = last }) }

-- where a read of a directory begins: at its first name, or behind the last one that was given
abbrev pub start_of : Opened → ℕ → Option (List ℕ)
start_of o offset = if offset == 0 then None else o.last
