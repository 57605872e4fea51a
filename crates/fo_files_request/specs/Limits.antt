-- What limits say of a write.
use Rattle.std.specs.Prelude.{◌≡◌, ◌+◌, ◌^◌, ◌<◌, ◌≤◌, ℕ, Bool, true, false}
use Rattle.fo_world.specs.declared.error.FileError.{FileError}
use Rattle.fo_world.specs.declared.error.FileError.TheVariants as error
use Rattle.fo_world.specs.declared.place.View.{View}
use Rattle.fo_world.specs.Step.{is_active}
use Rattle.fo_files_request.specs.declared.found.Bar.{Bar}
use Rattle.fo_files_request.specs.declared.found.Bar.TheVariants.{Empty, ReadOnly, TooBig, Halted}
use Rattle.fo_files_request.specs.declared.found.Limit.{Limit}
use Rattle.fo_files_request.specs.declared.found.Limit.TheVariants.{May, Bars}

-- why it writes nothing
abbrev pub IsBar : (view : View) (offset n : ℕ) (halted : Bool) → Bar → Type 0
IsBar view offset n halted Empty = (is_active view ≡ true) × (n ≡ 0)
IsBar view offset n halted ReadOnly = is_active view ≡ false
IsBar view offset n halted TooBig = (is_active view ≡ true) × (0 < n) × (2 ^ 40 < offset + n)
IsBar view offset n halted Halted = (is_active view ≡ true) × (0 < n) × (offset + n ≤ 2 ^ 40) × (halted ≡ true)

abbrev pub IsLimit : (view : View) (offset n : ℕ) (halted : Bool) → Limit → Type 0
IsLimit view offset n halted May = (is_active view ≡ true) × (0 < n) × (offset + n ≤ 2 ^ 40) × (halted ≡ false)
IsLimit view offset n halted (Bars bar) = IsBar view offset n halted bar

-- what is answered then
abbrev pub IsTold : Bar → FileError → Type 0
IsTold Empty e = ⊥
IsTold ReadOnly e = e ≡ error.ReadOnly
IsTold TooBig e = e ≡ error.TooBig
IsTold Halted e = e ≡ error.Halted
