-- Which blocks of a way have the pairs of its last files.
use Rattle.std.proofs.Common.{◌≡◌, ◌+◌, ◌-◌, ℕ, List, Option, Some, None, length, sym, subst, arith}
use Rattle.std.specs.Prelude.{MatchOption}
use Rattle.fo_files_plan.specs.of_files_at.declared.at.Step.{Step}
use Rattle.fo_files_dir.specs.declared.dir.DirAt.{DirAt}
use Rattle.fo_files_plan.specs.of_files_way.Owns.{IsIn}
use Rattle.fo_files_along.specs.Along.{IsStepOf, IsAboveOf}

pub step_in : (at : List ℕ) (steps : List Step) (k : ℕ) (d : DirAt) → length at ≡ length steps + 1 → IsStepOf at steps k d → IsIn at d.at
step_in at steps k d count s = (k, (let within = s.within in omega (arith, within, count)), sym s.pair.block_is)

pub above_in : (at : List ℕ) (steps : List Step) (k : ℕ) (above : Option DirAt) (b : ℕ) → length at ≡ length steps + 1 → IsAboveOf at steps k above → MatchOption above ⊥ (λ a. b ≡ a.at) → IsIn at b
above_in at steps k None b count is e = absurd e
above_in at steps k (Some a) b count is e = subst (λ x. IsIn at x) (sym e) (step_in at steps (k - 1) a count is.1)
