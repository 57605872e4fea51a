use Rattle.std.proofs.Common.{ℕ, ap, ◌∙◌}
use Rattle.fo_buffers.proofs.Tables.{same_table}
use Rattle.fo_buffers.proofs.Keeping.{table, view3, on_err}
use Rattle.fo_buffers.proofs.buffers.Buffers.reserve.Goals as goal

pub returns-in_err-grow-clause-err : goal.returns-in_err-grow-clause-err
returns-in_err-grow-clause-err c =
    on_err c.from_residual.result (ap (λ t. view3 t c.self.inside.clean.entries c.self.inside.room) (same_table c.self.inside.held.entries c.grow.new.held.entries c.grow.ensures.same) ∙ c.self.view_is)

pub returns-clause-ok : goal.returns-clause-ok
returns-clause-ok c =
    rw (← c.self.view_is)
    (ap (λ t. view3 t c.self.inside.clean.entries c.max-self-inside.result) (same_table c.self.inside.held.entries c.grow.new.held.entries c.grow.ensures.same)
    ∙ ap (λ (n : ℕ). view3 (table c.self.inside.held) c.self.inside.clean.entries n) c.max-self-inside.ensures)
