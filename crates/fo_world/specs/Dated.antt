-- Dated names: a snapshot or an archive has the path yyyy/mmdd/hhmm of its moment in UTC (fossil(4) of the Plan 9 manual), below a root that has the year 0.
use Rattle.std.specs.Prelude.{ℕ, ◌+◌, ◌*◌, ◌/◌, ◌%◌, ◌^◌, List, [], ◌∷◌, ◌++◌, map, Bool, ◌&&◌, ◌||◌, nat_lt, nat_eq, Option, Some, None, if◌then◌else◌}
use Rattle.std.specs.List.{list_any}
use Rattle.std.specs.Fmt.{decimal}
use Rattle.fo_world.specs.declared.tree.Node.{Node}
use Rattle.fo_world.specs.declared.tree.Body.TheVariants.{Dir}
use Rattle.fo_world.specs.Names.{no_names}
use Rattle.fo_world.specs.Date.{date_of, monthday_of, hour_minute_of}
use Rattle.fo_world.specs.World.{World, Snap, Archive}

-- the epoch of a snapshot or an archive, and when it was taken
pub record Taken : Type 0 where
  pub epoch : ℕ
  pub time : ℕ

abbrev pub taken_snap : Snap → Taken
taken_snap s = record { epoch = s.epoch; time = s.time }

abbrev pub taken_archive : Archive → Taken
taken_archive a = record { epoch = a.epoch; time = a.time }

-- those that the dated names of the archives, or of the kept snapshots, stand for
abbrev pub taken_of : Bool → World → List Taken
taken_of archive w = if archive then map taken_archive w.archives else map taken_snap w.snaps

abbrev digit : ℕ → ℕ
digit n = 48 + n % 10

-- a number below 10000, with leading zeros
abbrev pub four_digits : ℕ → List ℕ
four_digits n = (digit (n / 1000)) ∷ (digit (n / 100)) ∷ (digit (n / 10)) ∷ (digit n) ∷ []

-- one with a smaller epoch was taken in the same minute
abbrev pub has_twin : List Taken → Taken → Bool
has_twin all t = list_any (λ o. nat_eq (o.time / 60) (t.time / 60) && nat_lt o.epoch t.epoch) all

-- hhmm, and the epoch behind a point where one of the same minute has a smaller epoch
abbrev pub dated_name : List Taken → Taken → List ℕ
dated_name all t = if has_twin all t then four_digits (hour_minute_of t.time) ++ (46 ∷ decimal t.epoch) else four_digits (hour_minute_of t.time)

-- the first one with this epoch
abbrev pub taken_at : ℕ → List Taken → Option Taken
taken_at epoch [] = None
taken_at epoch (t ∷ ts) = if nat_eq t.epoch epoch then Some t else taken_at epoch ts

-- its path goes through the directory of this year (month-day 0), or of this year and month-day
abbrev pub is_below : ℕ → ℕ → Taken → Bool
is_below year monthday t = nat_eq (date_of t.time).year year && (nat_eq monthday 0 || nat_eq (monthday_of (date_of t.time)) monthday)

-- what is listed in a dated directory: years in that of year 0, and else what is below it
abbrev pub is_listed : ℕ → ℕ → Taken → Bool
is_listed year monthday t = nat_eq year 0 || is_below year monthday t

-- the name that it has there: its year, its month-day, or its dated name
abbrev pub entry_name : ℕ → ℕ → List Taken → Taken → List ℕ
entry_name year monthday all t =
    if nat_eq year 0 then four_digits (date_of t.time).year
    else (if nat_eq monthday 0 then four_digits (monthday_of (date_of t.time)) else dated_name all t)

-- the root is always there, another dated directory where something is below it
abbrev pub is_dated : List Taken → ℕ → ℕ → Bool
is_dated all year monthday = (nat_eq year 0 && nat_eq monthday 0) || list_any (is_below year monthday) all

-- the name of a root that can be attached to: `/`
abbrev pub slash : List ℕ
slash = 47 ∷ []

abbrev pub dated_dir_name : ℕ → ℕ → List ℕ
dated_dir_name year monthday = if nat_eq monthday 0 then (if nat_eq year 0 then slash else four_digits year) else four_digits monthday

-- the user `adm`
abbrev pub adm : List ℕ
adm = 97 ∷ 100 ∷ 109 ∷ []

-- a dated directory: mode DMDIR and 0555, of `adm`
abbrev pub dated_node : ℕ → ℕ → Node
dated_node year monthday = record { number = 2 ^ 31 + year * 10000 + monthday; vers = 0; mode = 2147484013; atime = 0; mtime = 0; uid = adm; gid = adm; muid = adm; body = Dir no_names }
