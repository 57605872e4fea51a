use Rattle.std.proofs.Common.{◌∙◌, sym, ap, length, replicate, ℕ, arith}
use Rattle.std.proofs.lemmas.List.{length-replicate}
use Rattle.fo_disk.specs.Disk.{Block, settled}
use Rattle.fo_disk.specs.Memory.{content_of}
use Rattle.fo_disk.proofs.Cells.{count-cells, content-ones}
use Rattle.fo_disk.proofs.memory.MemDisk.new.Goals as goal

pub invariant_of-result : goal.invariant_of-result
invariant_of-result c =
    record { flags = ap length c.loop.invariant.unsure ∙ length-replicate _ _ ∙ sym (count-cells _ _ c.loop.invariant.cells ∙ length-replicate _ _) }

pub returns-clause-holds : goal.returns-clause-holds
returns-clause-holds c =
    ap content_of c.loop.invariant.cells
    ∙ content-ones _
    ∙ ap (λ (n : ℕ). settled (replicate {A = Block} n (replicate 8192 0))) (omega (arith, c.loop-test.false))
