-- How many blocks a new name leaves to be written: making the root directory's own record ready takes none.
use Rattle.std.proofs.Common.{◌≡◌, ◌+◌, ◌-◌, ◌*◌, ◌<◌, ◌≤◌, ℕ, List, Option, Some, None, length, sym, subst, arith}
use Rattle.fo_world.specs.declared.place.Place.{Place}
use Rattle.fo_world.specs.Step.{most_need, need}
use Rattle.fo_files_dir.specs.declared.dir.DirAt.{DirAt}
use Rattle.fo_files_edit.specs.of_files_at.declared.at.Step.{Step}
use Rattle.fo_files_edit.specs.of_files_along.Along.{IsAboveOf}
use Rattle.fo_files_own.specs.Own.{blocks_for, own_of}

pub own_few : (at : List ℕ) (steps : List Step) (long n : ℕ) (dir : DirAt) (above : Option DirAt) (leaf spare : ℕ) → 0 < n → long ≡ n → IsAboveOf at steps (n - 1) above
    → 10 * long + 1 + 2 * (20 + blocks_for (own_of dir above leaf spare)) ≤ 2 * need (n - 1) 0
own_few at steps long n dir None leaf spare some same is = omega (arith, some, same, is)
own_few at steps long n dir (Some a) leaf spare some same is = let below = is.0 in omega (arith, some, same, below)

pub root_few : (at : Place) → 1 ≤ 2 * most_need at
root_few at = omega arith

pub below_few : (xs : List ℕ) (at : Place) → xs ≡ at.trail → 2 * need (length xs - 1) 0 ≤ 2 * most_need at
below_few xs at same = subst (λ t. 2 * need (length t - 1) 0 ≤ 2 * most_need at) (sym same) (omega arith)

pub change_few : (n : ℕ) → 10 * n + 45 ≤ 2 * need (n - 1) 0
change_few n = omega arith
