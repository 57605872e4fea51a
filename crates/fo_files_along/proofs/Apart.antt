-- The directories of a plan have numbers that differ.
use Rattle.std.proofs.Common.{◌≡◌, ◌+◌, ◌*◌, ◌<◌, ℕ, zero, suc, List, [], ◌∷◌, length, get_or, sym, ap, subst, ◌∙◌, arith}
use Rattle.fo_ports.specs.State.{State}
use Rattle.fo_files_plan.specs.of_files_at.declared.at.Step.{Step}
use Rattle.fo_files_plan.specs.of_files_at.declared.file.File.{File}
use Rattle.fo_files_plan.specs.of_files_way.declared.plan.Level.{Level}
use Rattle.fo_files_plan.specs.of_files_way.declared.plan.Plan.{Plan}
use Rattle.fo_files_plan.specs.of_files_way.Plan.{AreLevels}
use Rattle.fo_files_plan.specs.Along.{AreLeavesOf, IsAlong}
use Rattle.fo_files_along.specs.Along.{AreApart}

-- the tag of a block of a plan is that of the entries of the directory above it
tag_of : (s : State) (at tag : ℕ → ℕ) (k : ℕ) (steps : List Step) (file : File) (levels : List Level) (n : ℕ) (d : Step) → n < length steps → AreLeavesOf k steps file levels → AreLevels s at tag k levels → tag (k + n + 1) ≡ 32 + 2 * (get_or steps n d).dir.named.number
tag_of s at tag k [] file levels n d lt leaves each = absurd (omega (arith, lt))
tag_of s at tag k (step ∷ steps) file [] n d lt leaves each = absurd leaves
tag_of s at tag k (step ∷ steps) file (l ∷ rest) zero d lt leaves each =
    let e : k + 1 ≡ k + 0 + 1 = omega arith in
    subst (λ m. tag m ≡ 32 + 2 * step.dir.named.number) e (sym each.0.tagged ∙ leaves.0.2.tag ∙ leaves.0.1.tag)
tag_of s at tag k (step ∷ steps) file (l ∷ rest) (suc n) d lt leaves each =
    let e : k + 1 + n + 1 ≡ k + suc n + 1 = omega arith in
    subst (λ m. tag m ≡ 32 + 2 * (get_or steps n d).dir.named.number) e (tag_of s at tag (k + 1) steps file rest n d (omega (arith, lt)) leaves.1 each.1)

pub apart : (s : State) (steps : List Step) (file : File) (p : Plan) → IsAlong s steps file p → AreApart steps
apart s steps file p along = λ j k d e first second same.
    let may = along.planned.may in
    let count = along.count in
    let one = tag_of s (λ i. get_or p.at.items i 0) (λ i. get_or p.tags.items i 0) 0 steps file p.levels.items j d first along.leaves may.each in
    let other = tag_of s (λ i. get_or p.at.items i 0) (λ i. get_or p.tags.items i 0) 0 steps file p.levels.items k e second along.leaves may.each in
    let is : 0 + j + 1 ≡ 0 + k + 1 = may.differ (0 + j + 1) (0 + k + 1) (omega (arith, count, first)) (omega (arith, count, second)) (one ∙ ap (λ n. 32 + 2 * n) same ∙ sym other) in
    omega (arith, is)
