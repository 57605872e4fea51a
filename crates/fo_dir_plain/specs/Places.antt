-- Where the first record of a name stands in a list.
use Rattle.std.specs.Prelude.{◌≡◌, ℕ, true, false, List, ◌∷◌, ◌++◌, length}
use Rattle.std.specs.List.{list_any}
use Rattle.fo_image.specs.declared.record.Record.{Record}
use Rattle.fo_meta.specs.Leaf.{is_named}

-- The first record of the name stands at this place.
pub record IsPlace (name : List ℕ) (rs : List Record) (i : ℕ) : Type 0 where
  pub before : List Record
  pub named : Record
  pub after : List Record
  pub split : rs ≡ before ++ named ∷ after
  pub unnamed : list_any (is_named name) before ≡ false
  pub is : is_named name named ≡ true
  pub place : i ≡ length before
