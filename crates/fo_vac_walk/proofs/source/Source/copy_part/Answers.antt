use Rattle.std.proofs.Common.{◌+◌, ◌/◌, ◌%◌, ◌∙◌, arith}
use Rattle.std.proofs.lemmas.Result.{err_from_is_err_and}
use Rattle.fo_vac_walk.proofs.Leaves.{filled_byte, byte_here}
use Rattle.fo_vac_walk.proofs.source.Source.copy_part.Goals as goal

pub returns-in_err-leaf-clause-held : goal.returns-in_err-leaf-clause-held
returns-in_err-leaf-clause-held g c = λ h w told is.
    let p = err_from_is_err_and c.from_residual.result c.from_residual.ensures.1 in
    rw (p.1, p.2) (c.in_err-leaf.ensures.held h w told is)

pub returns-clause-held : goal.returns-clause-held
returns-clause-held g c = λ h w told is i lt.
    let s = c.args.self.now in
    let part = c.requires in
    c.copy_from.ensures i lt
    ∙ filled_byte h w s.holder s.entry (c.args.place / 8192) c.leaf.new.into c.in_ok-leaf.field-0 (c.in_ok-leaf.ensures.held h w told is) (c.args.place % 8192 + i)
    ∙ byte_here h w c.args.place i (omega (arith, part, lt))
