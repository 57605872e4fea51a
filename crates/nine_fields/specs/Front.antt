-- What a list began with.
use Rattle.std.specs.Prelude.{◌≡◌, ℕ, ◌≤◌, List, length, take}

-- the later list begins with the earlier one
pub record IsFront (front all : List ℕ) : Type 0 where
  pub begins : take (length front) all ≡ front
