use Rattle.std.proofs.Common.{◌≢◌, ◌<◌, ℕ}
use Rattle.fo_crash.specs.Images.{target}
use Rattle.fo_image.specs.declared.types.Pointer.TheVariants.{Local}
use Rattle.fo_slots.specs.Read.{read}
use Rattle.fo_raising.proofs.looks.leads_nowhere.Given as goal

-- the slots so far lead nowhere
abbrev pub invariant-loop-j : goal.invariant-loop-j
invariant-loop-j l = (j x : ℕ) → j < l.j → target ((read l.kind l.bytes).slot j) ≢ Local x
