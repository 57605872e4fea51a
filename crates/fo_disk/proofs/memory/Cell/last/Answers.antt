use Rattle.std.proofs.Common.{ℕ, get_or, ap, ◌∙◌, arith}
use Rattle.fo_disk.proofs.Cells.{last_version}
use Rattle.fo_disk.proofs.memory.Cell.last.Goals as goal

pub returns-clause-latest : goal.returns-clause-latest
returns-clause-latest c =
    c.deref.ensures.value
    ∙ last_version c.args.self.now c.index-last.result.now (c.index-last.ensures ∙ ap (λ (n : ℕ). get_or c.args.self.now.all.items n c.index-last.result.now) (omega (arith, c.len.ensures)))
