-- The tree behind a list of numbers.
use Rattle.std.specs.Prelude.{◌≡◌, ◌*◌, ◌^◌, ◌≤◌, vec_len}
use Rattle.fo_labels.specs.declared.index.Minima.TheInside.{Inside}
use Rattle.fo_labels.specs.Mins.{HasMins}

pub record IsTree (a : Inside) : Type 0 where
  pub leaves : a.leaves ≡ 2 ^ a.levels
  pub levels : a.levels ≤ 32
  pub nodes : vec_len a.tree ≡ 2 * a.leaves
  pub fits : a.len ≤ a.leaves
  pub mins : HasMins a.leaves a.tree.items
