use Rattle.std.proofs.Common.{◌≡◌, ◌<◌, ℕ}
use Rattle.fo_buffers.specs.of_crash.Images.{target}
use Rattle.fo_image.specs.declared.types.Pointer.TheVariants.{Local}
use Rattle.fo_buffers.specs.of_slots.Read.{read}
use Rattle.fo_bring.specs.Blocks.{IsData}
use Rattle.fo_bring.proofs.good.leads_within.Given as goal

-- the slots so far lead to data blocks
abbrev pub invariant-loop-j : goal.invariant-loop-j
invariant-loop-j l = (j b : ℕ) → j < l.j → target ((read l.kind l.bytes).slot j) ≡ Local b → IsData l.first l.count b
