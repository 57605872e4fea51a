-- Which file of a directory is wanted: the first by name of those that pass a test, and of equal names the last.
use Rattle.std.specs.Prelude.{ℕ, List, [], ◌∷◌, Bool, nat_eq, Option, Some, None, IfSome, if◌then◌else◌}
use Rattle.std.specs.List.{AllByRecursion}
use Rattle.std.specs.Str.{bytes_eq}
use Rattle.fo_image.specs.declared.record.Record.{Record}
use Rattle.fo_image.specs.Record.{RecordHolds}
use Rattle.fo_world.specs.Tree.{comes_before}
use Rattle.fo_world.specs.Step.{is_above}
use Rattle.fo_vac_dir.specs.declared.choice.Wanted.{Wanted}
use Rattle.fo_vac_dir.specs.declared.choice.Wanted.TheVariants.{Name, Number, Next}

-- a test on a name and a number, as the file step has it
abbrev pub test_of : Wanted → List ℕ → ℕ → Bool
test_of (Name wanted) name number = bytes_eq name wanted
test_of (Number wanted) name number = nat_eq number wanted
test_of (Next after) name number = is_above after name

abbrev pub passes : (List ℕ → ℕ → Bool) → Record → Bool
passes test r = test r.name r.number

-- of a record and of the best of those behind it
abbrev pub better : Record → Option Record → Record
better r None = r
better r (Some best) = if comes_before r.name best.name then r else best

abbrev pub least : (List ℕ → ℕ → Bool) → List Record → Option Record
least test [] = None
least test (r ∷ rs) = if passes test r then Some (better r (least test rs)) else least test rs

-- the best of those before a record, and of the record
abbrev pub or_later : Option Record → Record → Record
or_later None r = r
or_later (Some best) r = better best (Some r)

abbrev pub chosen : (List ℕ → ℕ → Bool) → Option Record → Record → Option Record
chosen test best r = if passes test r then Some (or_later best r) else best

-- records within the limits
abbrev pub AllHold : List Record → Type 0
AllHold rs = AllByRecursion RecordHolds rs

abbrev pub OneHolds : Option Record → Type 0
OneHolds found = IfSome found RecordHolds
