-- How flchk ends where the check gives no report.
use Rattle.std.proofs.Common.{ℕ, ◌==◌, List, sym, subst, inl, inr, refl}
use Rattle.std.proofs.lemmas.Bool.{cond_both, eqb-true, eqb-false}
use Rattle.fo_disk.specs.Disk.{Block}
use Rattle.fo_disk.specs.declared.disk.DiskFault.{DiskFault}
use Rattle.fo_check.specs.Answer.{Blames, IsOutside}
use Rattle.fo_check_image.specs.Answer.{Refuses, IsUnsound}
use Rattle.fo_check.specs.declared.error.CheckError.{CheckError}
use Rattle.fo_check.specs.declared.error.CheckError.TheVariants as check
use Rattle.fo_tools.specs.declared.end.ToolEnd.TheVariants as end
use Rattle.fo_tools.specs.Ends.{end_of_main, end_of_arena, end_of_check}
use Rattle.fo_tools.specs.Ending.{EndsCheck, MayMiss}

pub check-ends : (image vault : List Block) (main main_now arena arena_now : ℕ) (e : CheckError) → Refuses image vault e → Blames main main_now arena arena_now e → EndsCheck image vault (end_of_check e)
check-ends image vault m m' a a' check.Size why blamed = why
check-ends image vault m m' a a' check.NotArena why blamed = why
check-ends image vault m m' a a' check.NotBuilt why blamed = why
check-ends image vault m m' a a' (check.Unsound rule block) why blamed =
    cond_both (rule == 1) end.NotFossil (end.Unsound rule block) (EndsCheck image vault)
    (λ is. (block, subst (λ (r : ℕ). IsUnsound image vault r block) (eqb-true rule 1 is) why))
    (λ other. (why, eqb-false rule 1 other))
check-ends image vault m m' a a' (check.Main fault) why blamed = subst (λ (f : DiskFault). EndsCheck image vault (end_of_main f)) (sym blamed.0) tt
check-ends image vault m m' a a' (check.Arena fault) why blamed = subst (λ (f : DiskFault). EndsCheck image vault (end_of_arena f)) (sym blamed.0) tt
check-ends image vault m m' a a' check.Memory why blamed = tt

pub check-may_miss : (main main_now arena arena_now : ℕ) (e : CheckError) → IsOutside e → Blames main main_now arena arena_now e → MayMiss (end_of_check e)
check-may_miss m m' a a' check.Size out blamed = absurd out
check-may_miss m m' a a' check.NotArena out blamed = absurd out
check-may_miss m m' a a' check.NotBuilt out blamed = absurd out
check-may_miss m m' a a' (check.Unsound rule block) out blamed = absurd out
check-may_miss m m' a a' (check.Main fault) out blamed = subst (λ (f : DiskFault). MayMiss (end_of_main f)) (sym blamed.0) (inr (inr (inl refl)))
check-may_miss m m' a a' (check.Arena fault) out blamed = subst (λ (f : DiskFault). MayMiss (end_of_arena f)) (sym blamed.0) (inr (inr (inr (inl refl))))
check-may_miss m m' a a' check.Memory out blamed = inr (inr (inr (inr refl)))
