-- Steps that may be refused, one after another.
use Rattle.std.specs.Prelude.{Bool, Result, Ok, Err, if◌then◌else◌}

-- the value, and then more; a refusal ends it
abbrev pub and_then : {A B E : Type 0} → Result A E → (A → Result B E) → Result B E
and_then (Ok x) f = f x
and_then (Err e) f = Err e

-- a refusal where the test holds
abbrev pub refuse_if : {A E : Type 0} → Bool → E → Result A E → Result A E
refuse_if b e r = if b then Err e else r
