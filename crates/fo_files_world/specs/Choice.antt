-- Which record of a directory is meant: the first by name of those that pass a test, and of equal names the last.
use Rattle.std.specs.Prelude.{◌≡◌, ℕ, List, [], ◌∷◌, Bool, true, false, Option, Some, None, if◌then◌else◌}
use Rattle.std.specs.List.{AllByRecursion}
use Rattle.fo_image.specs.declared.record.Record.{Record}
use Rattle.fo_world.specs.Tree.{comes_before}

-- a test on a name and a number, as the file step has it, of a record
abbrev pub passes : (List ℕ → ℕ → Bool) → Record → Bool
passes test r = test r.name r.number

-- of a record and of the best of those behind it
abbrev pub better : Record → Option Record → Record
better r None = r
better r (Some best) = if comes_before r.name best.name then r else best

abbrev pub least : (List ℕ → ℕ → Bool) → List Record → Option Record
least test [] = None
least test (r ∷ rs) = if passes test r then Some (better r (least test rs)) else least test rs

-- Of these records no two pass.
abbrev pub OnePasses : (List ℕ → ℕ → Bool) → List Record → Type 0
OnePasses test [] = Unit {0}
OnePasses test (r ∷ rs) = (passes test r ≡ true → AllByRecursion (λ q. passes test q ≡ false) rs) × OnePasses test rs
