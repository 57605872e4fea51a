-- A search in a pointer block.
use Rattle.std.specs.Prelude.{◌≡◌, ℕ, ◌+◌, ◌<◌, ◌≤◌, List, [], ◌∷◌, drop, Option, Some, None, IfSome}
use Rattle.fo_image.specs.declared.types.Pointer.{Pointer}
use Rattle.fo_unlink.specs.Closing.{HoldsPointers, targets}

-- What is left of the targets from a slot on is this target and what is left from the next slot on; or nothing.
abbrev pub NextTarget : List Pointer → ℕ → Option (ℕ × ℕ) → Type 0
NextTarget pointers from None = targets (drop from pointers) ≡ []
NextTarget pointers from (Some (slot, at)) = targets (drop from pointers) ≡ at ∷ targets (drop (slot + 1) pointers)

pub record IsNextTarget (block : List ℕ) (from : ℕ) (result : Option (ℕ × ℕ)) : Type 0 where
  pub within : IfSome result (λ found. (from ≤ found.0) × (found.0 < 409))
  pub next : (pointers : List Pointer) → HoldsPointers pointers block → NextTarget pointers from result
